-- What was accepted, with more of it folded.
use Rattle.std.proofs.Common.{◌≡◌, ℕ, ◌+◌, ◌≤◌, List, ◌∷◌, ◌++◌, length, take, drop, refl, sym, ◌∙◌, ap, arith}
use Rattle.std.proofs.Common.{append-nil, length-append}
use Rattle.std.proofs.lemmas.List.{take-append-le, drop-append-le, length-drop}
use Rattle.hyper_matrix.specs.Counts.{ewise_add}
use Rattle.hyper_matrix.proofs.CountLaws.{ewise_add-empty}
use Rattle.batch_store.specs.Batches.{Submission, entries_of}
use Rattle.batch_store.specs.Accepted.{Accepted, accepted, list_sum, summed, folded_into, entries_in}
use Rattle.batch_store.specs.BookFolds.{folded_to}
use Rattle.batch_store.proofs.BookFoldLaws.{entries-to, all_settled}
use Rattle.plain_engine.proofs.RoundLaws.{folded_twice}
use Rattle.wire_proto.specs.Plain.{IsFolded, with_batches}

none_folded : (a : Accepted) → a ≡ folded_to 0 a
none_folded a = λ i. accepted (sym (ewise_add-empty a.base) i) (sym (append-nil a.folded) i) a.list

pub folded_same : (a t : Accepted) → t ≡ a → IsFolded a t
folded_same a t e = record { count = 0; within = omega arith; state = e ∙ none_folded a }

pub folded_all : (a t : Accepted) → t ≡ folded_into (summed a) a → IsFolded a t
folded_all a t e = record { count = length a.list; within = omega arith; state = e ∙ sym (all_settled a) }

-- whether batches are accepted before a fold or behind it
pub folded_behind : (a t : Accepted) (more : List Submission) → IsFolded a t →
    IsFolded (with_batches a more) (with_batches t more)
folded_behind a t more h =
    let front = take-append-le h.count a.list more h.within in
    let behind = drop-append-le h.count a.list more h.within in
    record {
      count = h.count;
      within = omega (arith, h.within, length-append a.list more);
      state = ap (λ s. with_batches s more) h.state
          ∙ (λ i. accepted (ewise_add a.base (list_sum (sym front i))) (a.folded ++ entries_of (sym front i))
          (sym behind i));
    }

-- one fold behind the other
pub folded_on : (a m t : Accepted) → IsFolded a m → IsFolded m t → IsFolded a t
folded_on a m t h k =
    let more : h.count + k.count ≤ length a.list =
    omega (arith, h.within, k.within, ap (λ (x : Accepted). length x.list) h.state, length-drop h.count a.list) in
    record {
      count = h.count + k.count;
      within = more;
      state = k.state ∙ ap (folded_to k.count) h.state ∙ folded_twice h.count k.count a more;
    }

pub folded_entries : (a t : Accepted) → IsFolded a t → entries_in t ≡ entries_in a
folded_entries a t h = ap entries_in h.state ∙ entries-to h.count a

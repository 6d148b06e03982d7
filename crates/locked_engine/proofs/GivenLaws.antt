-- Batches that are known as accepted.
use Rattle.std.proofs.Common.{◌≡◌, ℕ, zero, suc, ◌+◌, ◌-◌, ◌≤◌, List, [], ◌∷◌, ◌++◌, length, take, drop, slice_get}
use Rattle.std.proofs.Common.{Some, refl, ◌∙◌, ap, subst, arith}
use Rattle.std.proofs.Common.{inr, length-append}
use Rattle.std.specs.Prelude.{◌⊎◌, Result, Ok, Err, IfOk}
use Rattle.std.proofs.lemmas.List.{length-take-le}
use Rattle.std.proofs.lemmas.Option.{slice_get-get_or}
use mathlib.Core.List.{IsPrefix}
use Rattle.batch_store.specs.declared.verdict.Kept.{Kept}
use Rattle.batch_store.specs.Accepted.{Accepted, batch_at}
use Rattle.batch_store.specs.Batches.{Submission, entries_of}
use Rattle.batch_store.proofs.BookLaws.{length-entries_of}
use Rattle.plain_engine.proofs.SameLaws.{behind_folded}
use Rattle.locked_engine.specs.Given.{IsGiven, AreKnown, Given}
use Rattle.locked_engine.specs.Opened.{HasFolded}
use Rattle.locked_engine.specs.Views.{SeatView}
use Rattle.locked_engine.proofs.PrefixLaws.{prefix_trans}

-- what a beginning has at an index, the whole list has there
there_longer : (xs ys : List Submission) (i : ℕ) (b : Submission) → slice_get xs i ≡ Some b →
    slice_get (xs ++ ys) i ≡ Some b
there_longer [] ys i b h = absurd (cc h)
there_longer (x ∷ xs) ys zero b h = h
there_longer (x ∷ xs) ys (suc i) b h = there_longer xs ys i b h

pub given_later : (o : Accepted) (b : Submission) (known all : List Submission) (k : Kept) → IsPrefix known all →
    IsGiven o b known k → IsGiven o b all k
given_later o b known all k p h = record {
  later = h.later;
  there = subst (λ (l : List Submission). slice_get l (k.index - length o.folded) ≡ Some b) p.1
      (there_longer known p.0 (k.index - length o.folded) b h.there);
}

-- what seats know begins what is longer
pub known_later : (seats : List SeatView) (old now : List Submission) → IsPrefix old now → AreKnown seats old →
    AreKnown seats now
known_later [] old now p h = tt
known_later (s ∷ ss) old now p h = (prefix_trans s.known old now h.0 p, known_later ss old now p h.1)

known_at : (seats : List SeatView) (i : ℕ) (s : SeatView) (all : List Submission) → AreKnown seats all →
    slice_get seats i ≡ Some s → IsPrefix s.known all
known_at [] i s all h at = absurd (cc at)
known_at (t ∷ ts) zero s all h at =
    let same : t ≡ s = cc at in subst (λ (u : SeatView). IsPrefix u.known all) same h.0
known_at (t ∷ ts) (suc i) s all h at = known_at ts i s all h.1 at

-- what a seat had accepted is among all batches
pub given_all : (o : Accepted) (seats : List SeatView) (all : List Submission) (b : Submission) (k : Kept) →
    AreKnown seats all → Given o seats b k → IsGiven o b all k
given_all o seats all b k known h =
    let among = h.among in
    let at = slice_get-get_or seats among.0 h.seat among.1 ∙ ap Some among.2 in
    let begins = known_at seats among.0 h.seat all known at in
    given_later o b h.known all k (prefix_trans h.known h.seat.known all h.later begins) h.given

-- an index after a front that is dropped
dropped_there : (m i : ℕ) (all : List Submission) → slice_get (drop m all) i ≡ slice_get all (m + i)
dropped_there zero i all = ap (λ (n : ℕ). slice_get all n) {x = i} {y = 0 + i} (omega arith)
dropped_there (suc m) i [] = refl
dropped_there (suc m) i (x ∷ xs) =
    dropped_there m i xs ∙ ap (λ (n : ℕ). slice_get (x ∷ xs) n) {x = suc (m + i)} {y = suc m + i} (omega arith)

-- and where it isn't folded it is in the list
pub given_stands : (o : Accepted) (all : List Submission) (a : Accepted) (b : Submission) (k : Kept) →
    HasFolded o all a → IsGiven o b all k → length a.folded ≤ k.index → batch_at a k.index ≡ Some b
given_stands o all a b k h given behind =
    let front = take h.count all in
    let folded : length a.folded ≡ length o.folded + h.count = omega (
      arith,
      ap (λ (x : Accepted). length x.folded) h.state,
      length-append o.folded (entries_of front),
      length-entries_of front,
      length-take-le h.count all h.within,
    ) in
    let i = k.index - length a.folded in
    let at : k.index ≡ length a.folded + i = omega (arith, behind) in
    let back : h.count + i ≡ k.index - length o.folded = omega (arith, behind, folded) in
    ap (λ (n : ℕ). batch_at a n) at ∙ behind_folded a (length a.folded) i refl
    ∙ ap (λ (x : Accepted). slice_get x.list i) h.state ∙ dropped_there h.count i all
    ∙ ap (λ (n : ℕ). slice_get all n) back ∙ given.there

-- an answer that isn't a first acceptance leaves the share
pub first_left : {E : Type 0} (r : Result Kept E) (P : Kept → Type 0) (Q : Type 0) → Q → IfOk r (λ (k : Kept). P k ⊎ Q)
first_left (Ok k) P Q q = inr q
first_left (Err e) P Q q = tt

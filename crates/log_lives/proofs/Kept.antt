-- An answer that is kept stays what it is in each list that has its place.
use Rattle.std.proofs.Common.{◌≡◌, ℕ, suc, ◌+◌, ◌<◌, ◌≤◌, Bool, false, List, [], ◌∷◌, ◌++◌, length, take, slice_get, Some}
use Rattle.std.proofs.Common.{refl, ap, sym, ◌∙◌, subst, arith}
use Rattle.std.specs.List.{IsDistinct, AllByRecursion}
use Rattle.std.proofs.lemmas.Option.{slice_get_within}
use mathlib.Core.List.{IsPrefix}
use Rattle.batch_store.specs.declared.verdict.Entry.{Entry}
use Rattle.batch_store.specs.declared.verdict.Verdict.{Verdict}
use Rattle.batch_store.specs.declared.verdict.Verdict.TheVariants.{Known}
use Rattle.batch_store.specs.Verdicts.{verdict_of, same_pair, total_of_entries, IsVerdict}
use Rattle.batch_store.proofs.VerdictMeaning.{verdict_means, meant_verdict}
use Rattle.log_lives.specs.Lives.{Answer}
use Rattle.log_lives.proofs.Prefixes.{prefix_get, prefix_take, prefix_length}

-- the batch stands at the place that was answered, and the totals up to it are those that were answered
pub record IsKept (es : List Entry) (a : Answer) : Type 0 where
  pub entry : slice_get es a.kept.index ≡ Some a.entry
  pub total : a.kept.total_after ≡ total_of_entries (take (a.kept.index + 1) es)

pub kept_of_known : (limit most : ℕ) (es : List Entry) (a : Answer) → IsDistinct same_pair es →
    verdict_of limit most es a.entry ≡ Known a.kept → IsKept es a
kept_of_known limit most es a distinct is =
    let m = subst (λ (v : Verdict). IsVerdict limit most es a.entry v) is (verdict_means limit most es a.entry distinct)
    in
    record { entry = m.0; total = m.1 }

pub known_of_kept : (limit most : ℕ) (es : List Entry) (a : Answer) → IsDistinct same_pair es → IsKept es a →
    verdict_of limit most es a.entry ≡ Known a.kept
known_of_kept limit most es a distinct h =
    meant_verdict limit most es a.entry (Known a.kept) distinct (h.entry, h.total)

-- in a list that goes on behind
pub kept_longer : (xs ys : List Entry) (a : Answer) → IsPrefix xs ys → IsKept xs a → IsKept ys a
kept_longer xs ys a p h =
    let within = slice_get_within xs a.kept.index a.entry h.entry in
    record {
      entry = sym (prefix_get xs ys a.kept.index a.entry p within) ∙ h.entry;
      total = h.total ∙ ap total_of_entries (prefix_take xs ys (a.kept.index + 1) p (omega arith));
    }

-- in a beginning that has the place
pub kept_shorter : (xs ys : List Entry) (a : Answer) → IsPrefix xs ys → a.kept.index < length xs → IsKept ys a →
    IsKept xs a
kept_shorter xs ys a p within h = record {
  entry = prefix_get xs ys a.kept.index a.entry p within ∙ h.entry;
  total = h.total ∙ ap total_of_entries (sym (prefix_take xs ys (a.kept.index + 1) p (omega arith)));
}

all_front : (P : Entry → Type 0) (xs ys : List Entry) → AllByRecursion P (xs ++ ys) → AllByRecursion P xs
all_front P [] ys h = tt
all_front P (x ∷ xs) ys h = (h.0, all_front P xs ys h.1)

distinct_front : (xs ys : List Entry) → IsDistinct same_pair (xs ++ ys) → IsDistinct same_pair xs
unfolding IsDistinct
distinct_front [] ys h = tt
distinct_front (x ∷ xs) ys h =
    (all_front (λ (y : Entry). same_pair x y ≡ false) xs ys h.0, distinct_front xs ys h.1)

pub distinct_prefix : (xs ys : List Entry) → IsPrefix xs ys → IsDistinct same_pair ys → IsDistinct same_pair xs
distinct_prefix xs ys p h = distinct_front xs p.0 (subst (λ l. IsDistinct same_pair l) (sym p.1) h)

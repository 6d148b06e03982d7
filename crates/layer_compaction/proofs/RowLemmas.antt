-- The rows of a sum.
use Rattle.std.proofs.Common.{◌≡◌, ℕ, ◌+◌, ◌≤◌, Bool, true, false, cond, eqb, not, List}
use Rattle.std.proofs.Common.{[], ◌∷◌, Option, Some, None, sym, ◌∙◌, ap, subst, refl, arith}
use Rattle.std.specs.Prelude.{unwrap_or}
use Rattle.std.specs.Ordering.{eq_by_cmp}
use Rattle.std.specs.FinMap.{empty, get, entries, find, retain_keys, get-empty, get-entries}
use Rattle.std.specs.FinMap.{get-retain_keys}
use Rattle.hyper_matrix.specs.Counts.{Place, place_cmp, Counts, ewise_add, plus, total, count_sum}
use Rattle.hyper_matrix.proofs.CountLaws.{same_counts, exact_places, get-ewise_add, plus-none}
use Rattle.hyper_matrix.proofs.CountLaws.{total-ewise_add}
pub use Rattle.hyper_matrix.proofs.RowOfLaws.{row_of-ewise_add}
use Rattle.hyper_matrix.proofs.RowOfLaws.{get-row_of}
use Rattle.hyper_matrix.specs.RowOf.{row_of}

module _ (m : Counts) (keep : Place → Bool) where
  pub get-kept : (q : Place) → get (retain_keys m keep) q ≡ cond (keep q) (get m q) None
  get-kept q = get-retain_keys m keep q (λ x same. ap keep (sym (exact_places q x same)))

-- no count is more than the total
found_below : (q : Place) (es : List (Place × ℕ)) → unwrap_or (find place_cmp q es) 0 ≤ count_sum es
found_below q [] = omega arith
found_below q (e ∷ es) = step (found_below q es) (eq_by_cmp place_cmp q e.0)
  where
    step : unwrap_or (find place_cmp q es) 0 ≤ count_sum es → (b : Bool) →
        unwrap_or (cond b (Some e.1) (find place_cmp q es)) 0 ≤ e.1 + count_sum es
    step rest true = omega arith
    step rest false = omega (arith, rest)

pub count_below : (m : Counts) (q : Place) → unwrap_or (get m q) 0 ≤ total m
unfolding total
count_below m q = subst (λ o. unwrap_or o 0 ≤ count_sum (entries m)) (sym (get-entries m q)) (found_below q (entries m))

pub none_kept : (b : Bool) (o : Option ℕ) → o ≡ None → cond b o None ≡ None
none_kept true o is = is
none_kept false o is = refl

pub row_of-empty : (r : ℕ) → row_of empty r ≡ empty
row_of-empty r = same_counts _ _ (λ q. get-row_of empty r q
    ∙ none_kept (eqb q.0 r) (get empty q) (get-empty place_cmp q) ∙ sym (get-empty place_cmp q))

-- the entries of the other rows
others : Counts → ℕ → Counts
others m r = retain_keys m (λ p. not (eqb p.0 r))

with_others : (m : Counts) (r : ℕ) → m ≡ ewise_add (row_of m r) (others m r)
unfolding others
with_others m r = same_counts _ _ (λ q. joined (eqb q.0 r) (get m q)
    ∙ sym (get-ewise_add (row_of m r) (others m r) q ∙ ap (λ o. plus o (get (others m r) q)) (get-row_of m r q)
    ∙ ap (plus (cond (eqb q.0 r) (get m q) None)) (get-kept m (λ p. not (eqb p.0 r)) q)))
  where
    joined : (b : Bool) (o : Option ℕ) → o ≡ plus (cond b o None) (cond (not b) o None)
    joined true o = sym (plus-none o)
    joined false o = refl

-- a row has no more than all
pub row_fits : (m : Counts) (r : ℕ) → total (row_of m r) ≤ total m
row_fits m r = omega (arith, ap total (with_others m r), total-ewise_add (row_of m r) (others m r))

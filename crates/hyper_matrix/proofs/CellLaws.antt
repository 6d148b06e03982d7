-- When two places are one.
use Rattle.std.proofs.Common.{◌≡◌, ℕ, false, cond, eqb}
use Rattle.std.proofs.Common.{Ordering, ◌∙◌, ap, refl}
use Rattle.std.specs.Ordering.{nat_cmp, eq_by_cmp, is_eq, ordering_then}
use Rattle.std.specs.Cmp.{unsigned_tied}
use Rattle.hyper_matrix.specs.Counts.{place_cmp}

-- a place is another's where both its numbers are
pub same_place : (r c s d : ℕ) → eq_by_cmp place_cmp (r, c) (s, d) ≡ cond (eqb r s) (eqb c d) false
same_place r c s d = then_equal (nat_cmp r s) (nat_cmp c d) ∙
    ap (λ b. cond b (eq_by_cmp nat_cmp c d) false) (unsigned_tied r s) ∙
    ap (λ b. cond (eqb r s) b false) (unsigned_tied c d)
  where
    then_equal : (p q : Ordering) → is_eq (ordering_then p q) ≡ cond (is_eq p) (is_eq q) false
    then_equal Ordering.Less q = refl
    then_equal Ordering.Equal q = refl
    then_equal Ordering.Greater q = refl

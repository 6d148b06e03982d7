-- Numbers that are given, over those of the files.
use Rattle.std.proofs.Common.{◌≡◌, inl, inr, ℕ, refl, ap, ◌∙◌, subst, arith}
use Rattle.std.specs.Prelude.{Bool, true, false, if◌then◌else◌}
use Rattle.batch_store.specs.Setups.{Setting}
use Rattle.batch_store.specs.Accepted.{Accepted, count_in, total_in}
use Rattle.batch_store.specs.Growth.{FitsIn, IsBelow, IsDimMisfit, IsGrowthMisfit, IsLimitMisfit, given_over, with_dims}
use Rattle.batch_store.specs.declared.given_numbers.GivenNumbers.{GivenNumbers}
use Rattle.batch_store.specs.declared.misfit.Misfit.{Misfit}
use Rattle.socket_server.specs.Growth.{IsPlan}

-- numbers over themselves are the numbers
same : {X : Type 0} (b : Bool) (x : X) → (if b then x else x) ≡ x
same true x = refl
same false x = refl

below_itself : (m : Misfit) (x y : ℕ) → x ≡ y → IsBelow m y x → ⊥
below_itself m x y is h = let b = h.below in omega (arith, is, b)

-- so none of the rows and columns is too small for itself
pub fits_itself : (g : GivenNumbers) (m : Misfit) → IsDimMisfit g.setup (given_over g g.setup) m → ⊥
fits_itself g m (inl h) = below_itself m (if g.rows then g.setup.rows else g.setup.rows) g.setup.rows
    (same g.rows g.setup.rows) h.1
fits_itself g m (inr h) = below_itself m (if g.cols then g.setup.cols else g.setup.cols) g.setup.cols
    (same g.cols g.setup.cols) h.2

-- the limits of both setups of a plan are those of the numbers over the files'
limits_same : (v s t : Setting) (a : Accepted) (m : Misfit) → s ≡ with_dims t v → IsLimitMisfit s a m →
    IsLimitMisfit t a m
limits_same v s t a m is h = subst (λ (x : Setting). IsLimitMisfit x a m) is h

-- what doesn't fit the first setup of a plan doesn't fit the last
pub first_misfit : (g : GivenNumbers) (f p q : Setting) (a : Accepted) (m : Misfit) → IsPlan g f p q →
    IsGrowthMisfit f p a m → IsGrowthMisfit f (given_over g f) a m
first_misfit g f p q a m plan (inl (inl h)) =
    absurd (below_itself m p.rows f.rows (ap (λ (s : Setting). s.rows) plan.first) h.1)
first_misfit g f p q a m plan (inl (inr h)) =
    absurd (below_itself m p.cols f.cols (ap (λ (s : Setting). s.cols) plan.first) h.2)
first_misfit g f p q a m plan (inr h) =
    subst (λ (s : Setting). IsGrowthMisfit f s a m) plan.last
    (inr (record { rows = plan.rows; cols = plan.cols }, limits_same f p q a m plan.first h.1))

-- What one matrix has more than another: what has to be added to the earlier one so that the later one comes out.
--     minus new old       at one place: what has to be added to `old`, nothing where both have the same count, and no
--                         answer where the count falls
--     IsDifference a b x  so x is at every place: what has to be added to b so that a comes out
--     IsFirstFall a b p   the count falls at this place, and at none before it by row and then by column
--     HasFewerZeros b x y at each place x has what y has, but that x has no entry where y has a stored zero and b an
--                         entry
use Rattle.std.specs.Prelude.{◌≡◌, ◌⊎◌, ℕ, ◌-◌, nat_lt, nat_eq, if◌then◌else◌, Option, Some, None, IsSome}
use Rattle.std.specs.FinMap.{get}
use Rattle.hyper_matrix.specs.Counts.{Counts, Place}
use Rattle.hyper_matrix.specs.Places.{Less}

-- of two counts
abbrev pub left_over : ℕ → ℕ → Option (Option ℕ)
left_over m n = if nat_lt m n then None else if nat_eq m n then Some None else Some (Some (m - n))

abbrev pub minus : Option ℕ → Option ℕ → Option (Option ℕ)
minus new None = Some new
minus None (Some n) = None
minus (Some m) (Some n) = left_over m n

abbrev pub IsDifference : Counts → Counts → Counts → Type 0
IsDifference a b x = (p : Place) → minus (get a p) (get b p) ≡ Some (get x p)

pub record IsFirstFall (a b : Counts) (p : Place) : Type 0 where
  pub falls : minus (get a p) (get b p) ≡ None
  pub first : (q : Place) → Less q p → minus (get a q) (get b q) ≡ None → ⊥

abbrev pub HasFewerZeros : Counts → Counts → Counts → Type 0
HasFewerZeros b x y =
    (p : Place) → (get y p ≡ get x p) ⊎ (IsSome (get b p) × (get x p ≡ None) × (get y p ≡ Some 0))

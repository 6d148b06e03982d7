-- Lists of cells, and the order of their places.
use Rattle.std.specs.Prelude.{◌≡◌, ℕ, T, List, [], ◌∷◌, slice_index_or}
use Rattle.std.specs.List.{AllByRecursion}
use Rattle.std.specs.Ordering.{is_lt}
use Rattle.hyper_matrix.specs.Counts.{Place, place_cmp}

-- one place stands before another
abbrev pub Less : Place → Place → Type 0
Less p q = T (is_lt (place_cmp p q))

-- Q holds of the place of each cell
abbrev pub AllPlaces : (Place → Type 0) → List (Place × ℕ) → Type 0
AllPlaces Q es = AllByRecursion (λ e. Q e.0) es

-- each cell of the first list stands before each of the second
abbrev pub Precede : List (Place × ℕ) → List (Place × ℕ) → Type 0
Precede xs ys = AllPlaces (λ p. AllPlaces (Less p) ys) xs

-- a list begins at this place
abbrev pub IsFirst : Place → List (Place × ℕ) → Type 0
IsFirst p [] = ⊥
IsFirst p (e ∷ es) = p ≡ e.0

-- the place of cell k
abbrev pub place_at : List (Place × ℕ) → ℕ → Place
place_at es k = (slice_index_or es k ((0, 0), 0)).0

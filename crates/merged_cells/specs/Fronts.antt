-- Matrices whose cells are merged side by side: what is left of each, and the sum of that.
--     left_of f               the entries that a front stands for
--     fronts_of first fs      all fronts, where one is kept apart
--     fronts_sum fs           the sum of what all fronts stand for
--     AreFronts first fs      fronts as a merge keeps them
--     Pulls                   the least cell was taken
--     Skips                   a front has passed over cells before a place
use Rattle.std.specs.Prelude.{◌≡◌, ℕ, suc, ◌+◌, ◌<◌, ◌≤◌, T, false, true, List, [], ◌∷◌, length, Option, Some, None}
use Rattle.std.specs.Prelude.{MatchOption}
use Rattle.std.specs.declared.cmp.Ordering.{Ordering}
use Rattle.std.specs.Ordering.{is_lt}
use Rattle.std.specs.List.{AllByRecursion}
use Rattle.std.specs.BinaryHeap.{IsHeap}
use Rattle.std.specs.FinMap.{empty, entries, is_sorted}
use Rattle.cells.specs.declared.cell.Cell.{Cell}
use Rattle.hyper_matrix.specs.Counts.{Place, place_cmp, Counts, ewise_add, built, total}
use Rattle.hyper_matrix.specs.Cells.{entry_of, place_of}
use Rattle.hyper_matrix.specs.Search.{is_before, cells_from}
use Rattle.merged_cells.specs.declared.front.Front.{Front}

-- the front with the lower place is the greater one
abbrev pub front_cmp : Front → Front → Ordering
front_cmp f g = place_cmp (place_of g.cell) (place_of f.cell)

abbrev pub left_of : Front → List (Place × ℕ)
left_of f = entry_of f.cell ∷ f.rest

abbrev pub fronts_of : Option Front → List Front → List Front
fronts_of None fs = fs
fronts_of (Some f) fs = f ∷ fs

abbrev pub fronts_sum : List Front → Counts
fronts_sum [] = empty
fronts_sum (f ∷ fs) = ewise_add (built (left_of f)) (fronts_sum fs)

abbrev pub cells_left : List Front → ℕ
cells_left [] = 0
cells_left (f ∷ fs) = suc (length f.rest) + cells_left fs

-- each front's places rise
abbrev pub AreRising : List Front → Type 0
AreRising fs = AllByRecursion (λ f. T (is_sorted place_cmp (left_of f))) fs

-- no front is before this place
abbrev pub NoneBefore : Place → List Front → Type 0
NoneBefore p fs = AllByRecursion (λ f. is_lt (place_cmp (place_of f.cell) p) ≡ false) fs

-- The fronts of a merge: a heap, and one apart that none of the others is before, if there is any at all.
pub record AreFronts (first : Option Front) (fs : List Front) : Type 0 where
  pub heap : IsHeap front_cmp fs
  pub rise : AreRising (fronts_of first fs)
  pub least : MatchOption first (fs ≡ []) (λ f. NoneBefore (place_of f.cell) fs)

-- A cell was taken from the first fronts, and the second are left, none of which is before it.
pub record Pulls (first : Option Front) (fs : List Front) (cell : Cell) (next : Option Front) (gs : List Front)
    : Type 0 where
  pub sum : fronts_sum (fronts_of first fs) ≡ ewise_add (built (entry_of cell ∷ [])) (fronts_sum (fronts_of next gs))
  pub kept : AreFronts next gs
  pub behind : NoneBefore (place_of cell) (fronts_of next gs)
  pub first_is : MatchOption first ⊥ (λ f. cell ≡ f.cell)
  pub fewer : cells_left (fronts_of first fs) ≡ suc (cells_left (fronts_of next gs))

-- The fronts of a merge that hasn't begun.
pub record AreSources (bound : ℕ) (fs : List Front) : Type 0 where
  pub heap : IsHeap front_cmp fs
  pub rise : AreRising fs
  pub fits : total (fronts_sum fs) ≤ bound

-- a merge that has begun
pub record IsMerge (bound : ℕ) (first : Option Front) (fs : List Front) : Type 0 where
  pub kept : AreFronts first fs
  pub fits : total (fronts_sum (fronts_of first fs)) ≤ bound

-- the front is at another place
abbrev pub IsElsewhere : Place → Option Front → Type 0
IsElsewhere p None = Unit {0}
IsElsewhere p (Some f) = (f.cell.row ≡ p.0) × (f.cell.col ≡ p.1) → ⊥

-- there is a front, and its cell stands before this place
abbrev pub IsFrontBefore : Place → Option Front → Type 0
IsFrontBefore p None = ⊥
IsFrontBefore p (Some f) = is_before (place_of f.cell) p ≡ true

-- Cells before a place were left out of the first fronts, and the second are left: from the place on both have the
-- same.
pub record Skips (p : Place) (first : Option Front) (fs : List Front) (next : Option Front) (gs : List Front)
    : Type 0 where
  pub kept : AreFronts next gs
  pub same : cells_from p (entries (fronts_sum (fronts_of next gs))) ≡
      cells_from p (entries (fronts_sum (fronts_of first fs)))
  pub fewer : cells_left (fronts_of next gs) < cells_left (fronts_of first fs)

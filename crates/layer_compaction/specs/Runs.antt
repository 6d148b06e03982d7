-- A layer as it is stored: runs, which are matrices side by side, and what is kept beside them.
use Rattle.std.specs.Prelude.{◌≡◌, ℕ, ◌+◌, ◌<◌, ◌≤◌, ◌^◌, List, [], ◌∷◌, length, take, if◌then◌else◌, is_some}
use Rattle.std.specs.Prelude.{Option, Some, None}
use Rattle.std.specs.FinMap.{get, len}
use Rattle.cells.specs.declared.cell.Cell.{Cell}
use Rattle.hyper_matrix.specs.Cells.{entry_of}
use Rattle.hyper_matrix.specs.Search.{is_before}
use Rattle.cells.specs.Bounds.{IsDimension}
use Rattle.hyper_matrix.specs.Counts.{Counts, Place, total}
use Rattle.hyper_matrix.specs.Matrix.{Matrix}
use Rattle.layer_compaction.specs.Shared.{content, all_counts, HaveDims}

-- how many entries of a list stand at places where m has none
abbrev pub count_new : Counts → List (Place × ℕ) → ℕ
count_new m [] = 0
count_new m (e ∷ es) = (if is_some (get m e.0) then 0 else 1) + count_new m es

-- a list without the entries at whose places m has one
abbrev pub without : Counts → List (Place × ℕ) → List (Place × ℕ)
without m [] = []
without m (e ∷ es) = if is_some (get m e.0) then without m es else e ∷ without m es

-- a cell, if there is one, and those that are left behind it
abbrev pub left_with : Option Cell → List (Place × ℕ) → List (Place × ℕ)
left_with None es = []
left_with (Some cell) es = entry_of cell ∷ es

-- a list without the entries at its head that stand before a place
abbrev pub from_place : Place → List (Place × ℕ) → List (Place × ℕ)
from_place q [] = []
from_place q (e ∷ es) = if is_before e.0 q then from_place q es else e ∷ es

-- all runs have the layer's dimensions, `sum` is the total of all, and together they have at most `most` entries
pub record KeepsRuns (rows cols sum most : ℕ) (runs : List Matrix) : Type 0 where
  pub is_rows : IsDimension rows
  pub is_cols : IsDimension cols
  pub dims : HaveDims rows cols runs
  pub total_is : sum ≡ total (content (all_counts runs))
  pub fits : total (content (all_counts runs)) < 2 ^ 64
  pub few : len (content (all_counts runs)) ≤ most

-- the sum of the first `counted` runs has `places` entries
pub record CountsPlaces (counted places : ℕ) (runs : List Matrix) : Type 0 where
  pub within : counted ≤ length runs
  pub places_are : places ≡ len (content (take counted (all_counts runs)))

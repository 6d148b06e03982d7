-- Which lists of cells make a matrix, and which are refused, by the first cell that has a fault.
--     first_fault          the fault that a reader of the list meets first
--     LeavesDimensions     a cell lies outside, behind cells that all lie within and whose counts fit 64 bits
--     PassesLimit          with a cell that lies within, the counts no longer fit, and before it all was well
--     MakesMatrix          all cells lie within, and their counts fit
use Rattle.std.specs.Prelude.{◌≡◌, ℕ, ◌+◌, ◌<◌, ◌≤◌, ◌^◌, ◌⊎◌, ◌&&◌, List, [], ◌∷◌, ◌++◌, Option, Some, None}
use Rattle.std.specs.Prelude.{if◌then◌else◌, nat_lt}
use Rattle.cells.specs.Bounds.{IsWithin, AreWithin}
use Rattle.cells.specs.declared.cell.Cell.{Cell}
use Rattle.hyper_matrix.specs.Cells.{cell_total}
use Rattle.hyper_matrix.specs.declared.judge.BuildFault.{BuildFault}
use Rattle.hyper_matrix.specs.declared.judge.BuildFault.TheVariants.{IndexOutOfRange, SumTooLarge}

-- the first fault in the list's order, after cells with this total
abbrev pub first_fault : ℕ → ℕ → ℕ → List Cell → Option BuildFault
first_fault rows cols sum [] = None
first_fault rows cols sum (cell ∷ cells) =
    if nat_lt cell.row rows && nat_lt cell.col cols
    then (if nat_lt (sum + cell.count) (2 ^ 64) then first_fault rows cols
    (sum + cell.count) cells else Some SumTooLarge)
    else Some IndexOutOfRange

-- each cell lies within these dimensions, and all counts together are below 2^64
pub record MakesMatrix (rows cols : ℕ) (cells : List Cell) : Type 0 where
  pub within : AreWithin rows cols cells
  pub fits : cell_total cells < 2 ^ 64

pub record LeavesDimensions (rows cols : ℕ) (cells : List Cell) : Type 0 where
  pub before : List Cell
  pub cell : Cell
  pub after : List Cell
  pub parts : cells ≡ before ++ cell ∷ after
  pub well : MakesMatrix rows cols before
  pub outside : (rows ≤ cell.row) ⊎ (cols ≤ cell.col)

pub record PassesLimit (rows cols : ℕ) (cells : List Cell) : Type 0 where
  pub before : List Cell
  pub cell : Cell
  pub after : List Cell
  pub parts : cells ≡ before ++ cell ∷ after
  pub well : MakesMatrix rows cols before
  pub within : IsWithin rows cols cell
  pub passes : 2 ^ 64 ≤ cell_total before + cell.count

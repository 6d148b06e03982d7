-- Why a list of cells makes no batch.
--     MakesBatch      the list is short enough, all cells lie within the setup's dimensions, and their counts fit 64 bits
--     LeavesAt        this cell, counted from 0, is the first with a fault: it lies outside
--     PassesSum       the first cell with a fault lies within, and with it the counts no longer fit
--     RefusesList     by cases: what is so where `Batch::from_cells` answers a fault, and that no earlier one stands
use Rattle.std.specs.Prelude.{◌≡◌, ℕ, ◌<◌, ◌≤◌, List, length}
use Rattle.cells.specs.declared.cell.Cell.{Cell}
use Rattle.hyper_matrix.specs.Refusals.{MakesMatrix, LeavesDimensions, PassesLimit}
use Rattle.batch_store.specs.declared.fault.CellsFault.{CellsFault}
use Rattle.batch_store.specs.declared.fault.CellsFault.TheVariants.{Memory, TooManyCells, IndexOutOfRange, SumTooLarge}
use Rattle.batch_store.specs.Setups.{Setting}

-- a list of as many cells as a batch may be made of
abbrev pub IsShort : List Cell → Type 0
IsShort cells = length cells ≤ 1048576

pub record MakesBatch (v : Setting) (cells : List Cell) : Type 0 where
  pub short : IsShort cells
  pub makes : MakesMatrix v.rows v.cols cells

pub record LeavesAt (v : Setting) (cells : List Cell) (at : ℕ) : Type 0 where
  pub short : IsShort cells
  pub leaves : LeavesDimensions v.rows v.cols cells
  pub at_is : at ≡ length leaves.before

pub record PassesSum (v : Setting) (cells : List Cell) : Type 0 where
  pub short : IsShort cells
  pub passes : PassesLimit v.rows v.cols cells

-- why a list makes no batch of a setup
abbrev pub RefusesList : Setting → List Cell → CellsFault → Type 0
RefusesList v cells Memory = MakesBatch v cells
RefusesList v cells TooManyCells = 1048576 < length cells
RefusesList v cells (IndexOutOfRange at) = LeavesAt v cells at
RefusesList v cells SumTooLarge = PassesSum v cells

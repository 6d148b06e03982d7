-- What a running sum holds of the cells that were added.
use Rattle.std.specs.Prelude.{◌≡◌, ℕ, ◌<◌, ◌≤◌, ◌^◌, List, ◌++◌}
use Rattle.cells.specs.Bounds.{AreWithin}
use Rattle.cells.specs.Order.{Rise}
use Rattle.cells.specs.declared.cell.Cell.{Cell}
use Rattle.hyper_matrix.specs.Cells.{built_of, cell_total}
use Rattle.hyper_matrix.specs.Matrix.{matrix}
use Rattle.mm_sum.specs.declared.fault.SumFault.{SumFault}
use Rattle.mm_sum.specs.declared.fault.SumFault.TheVariants as fault
use Rattle.mm_sum.specs.declared.running_sum.RunningSum.{RunningSum}
use Rattle.mm_sum.specs.declared.running_sum.RunningSum.TheVariants.{Fits, TooLarge}
use Rattle.mm_sum.specs.declared.running_sum.Summed.{Summed}

-- the sum is the matrix that the cells build, in these dimensions, or their counts pass 64 bits
abbrev pub IsSumOf : ℕ → ℕ → List Cell → RunningSum → Type 0
IsSumOf rows cols cells (Fits m) = m ≡ matrix rows cols (built_of cells)
IsSumOf rows cols cells TooLarge = 2 ^ 64 ≤ cell_total cells

-- a block of cells lies within the dimensions of the sum, if it is still held
abbrev pub CanTake : RunningSum → List Cell → Type 0
CanTake (Fits m) block = AreWithin m.rows m.cols block
CanTake TooLarge block = Unit {0}

-- the sum was grown by a block of cells
abbrev pub GrowsBy : RunningSum → List Cell → RunningSum → Type 0
GrowsBy sum block next = (rows cols : ℕ) (cells : List Cell) →
    IsSumOf rows cols cells sum → IsSumOf rows cols (cells ++ block) next

-- the counts of a block fit 64 bits behind those of the sum
abbrev pub FitsBehind : RunningSum → List Cell → Type 0
FitsBehind sum block = (rows cols : ℕ) (cells : List Cell) →
    IsSumOf rows cols cells sum → cell_total (cells ++ block) < 2 ^ 64

-- this list is that of the sum of these cells: it builds the same, in these dimensions, and has each place once
pub record ListsSum (rows cols : ℕ) (cells : List Cell) (sum : Summed) : Type 0 where
  pub rows_are : sum.rows ≡ rows
  pub cols_are : sum.cols ≡ cols
  pub rises : Rise sum.cells.items
  pub same : built_of sum.cells.items ≡ built_of cells

-- why the sum of these cells has no list: the counts pass 64 bits, or they do not and memory ran out
abbrev pub RefusesSum : List Cell → SumFault → Type 0
RefusesSum cells fault.SumTooLarge = 2 ^ 64 ≤ cell_total cells
RefusesSum cells fault.Memory = cell_total cells < 2 ^ 64
RefusesSum cells fault.BadCuts = ⊥
RefusesSum cells (fault.Text told) = ⊥
RefusesSum cells (fault.Output told) = ⊥

-- why a running sum has no list
abbrev pub IsRefused : RunningSum → SumFault → Type 0
IsRefused sum told = (rows cols : ℕ) (cells : List Cell) → IsSumOf rows cols cells sum → RefusesSum cells told

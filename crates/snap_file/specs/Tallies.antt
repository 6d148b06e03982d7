-- The cells of a batch as the reader keeps them: a run of cells at a time, the last of those that were read.
use Rattle.std.specs.Prelude.{◌≡◌, ℕ, ◌+◌, ◌<◌, ◌≤◌, ◌⊎◌, List, [], ◌∷◌, ◌++◌, length, take, drop, slice_index_or}
use Rattle.std.specs.Prelude.{false}
use Rattle.std.specs.Int.{w64, from_be_bytes}
use Rattle.cells.specs.declared.cell.Cell.{Cell}
use Rattle.cells.specs.Bounds.{AreWithin}
use Rattle.cells.specs.Order.{Rise}
use Rattle.snap_file.specs.Table.{Tally, is_below}
use Rattle.snap_file.specs.declared.head.Head.{Head}
use Rattle.snap_file.specs.Outcomes.{ReaderState, IsPassed}
use Rattle.snap_file.specs.declared.tally.CellTally.{CellTally}

-- behind cells that were read before the run
abbrev pub tally_of : List Cell → CellTally → Tally
tally_of done t = record {
  cells = done ++ t.cells.items;
  least_row = t.least_row;
  least_col = t.least_col;
  counted = t.counted;
}

-- The cells of a run rise and lie within the dimensions, and the next one may stand behind the last.
pub record IsRun (rows cols : ℕ) (cells : List Cell) (least_row least_col : ℕ) : Type 0 where
  pub rises : Rise cells
  pub within : AreWithin rows cols cells
  pub below : (i : ℕ) (d : Cell) → i + 1 ≡ length cells →
      ((slice_index_or cells i d).row < least_row) ⊎ (((slice_index_or cells i d).row ≡ least_row) ×
      ((slice_index_or cells i d).col < least_col))

-- The first 24 bytes that are pending are the fields of this cell, and none of them is one too many.
pub record IsAhead (reader : ReaderState) (cell : Cell) : Type 0 where
  pub came : 24 ≤ length reader.pending
  pub room : reader.taken + 24 ≤ reader.max_bytes
  pub row_is : cell.row ≡ from_be_bytes w64 (take 8 reader.pending)
  pub col_is : cell.col ≡ from_be_bytes w64 (take 8 (drop 8 reader.pending))
  pub count_is : cell.count ≡ from_be_bytes w64 (take 8 (drop 16 reader.pending))

-- A cell that may come next: within the dimensions, not before the least place, and with a count that is left.
pub record HasNoFault (h : Head) (most : ℕ) (tally : CellTally) (cell : Cell) : Type 0 where
  pub row_below : cell.row < h.setup.rows
  pub col_below : cell.col < h.setup.cols
  pub in_order : is_below cell.row cell.col tally.least_row tally.least_col ≡ false
  pub counted : tally.counted + cell.count ≤ most

-- A cell that is next and has no fault was taken: its bytes are judged, and the tally has it.
pub record TakesCell (h : Head) (most : ℕ) (old : ReaderState) (tally : CellTally) (new : ReaderState)
    (next : CellTally) : Type 0 where
  pub cell : Cell
  pub ahead : IsAhead old cell
  pub faultless : HasNoFault h most tally cell
  pub passed : IsPassed old new 24
  pub cells_are : next.cells.items ≡ tally.cells.items ++ cell ∷ []
  pub row_is : next.least_row ≡ cell.row
  pub col_is : next.least_col ≡ cell.col + 1
  pub counted_is : next.counted ≡ tally.counted + cell.count

-- Cells as the body of a PutCells has them: for each its row, its column and its count, and nothing between.
--     cells_of        the cells that bytes spell
--     spelled_cells   the bytes of a list of cells
use Rattle.std.specs.Prelude.{ℕ, ◌+◌, ◌*◌, ◌/◌, ◌<◌, ◌^◌, List, ◌++◌, length, map, flat_map}
use Rattle.std.specs.List.{range_with_len}
use Rattle.cells.specs.declared.cell.Cell.{Cell}
use Rattle.wire_frames.specs.Frames.{number, number_at}

-- the cell that 24 bytes from this place on spell
abbrev pub cell_at : ℕ → List ℕ → Cell
cell_at place bytes = record {
  row = number_at place bytes;
  col = number_at (place + 8) bytes;
  count = number_at (place + 16) bytes;
}

-- each 24 bytes spell a cell: cell k stands behind the 24 * k bytes of those before it
unfoldable pub cells_of : List ℕ → List Cell
cells_of bytes = map (λ k. cell_at (24 * k) bytes) (range_with_len 0 (length bytes / 24))

abbrev pub cell_bytes : Cell → List ℕ
cell_bytes cell = number cell.row ++ number cell.col ++ number cell.count

unfoldable pub spelled_cells : List Cell → List ℕ
spelled_cells cells = flat_map cell_bytes cells

-- the numbers of a cell fit their bytes
abbrev pub FitsBytes : Cell → Type 0
FitsBytes cell = (cell.row < 2 ^ 64) × (cell.col < 2 ^ 64) × (cell.count < 2 ^ 64)

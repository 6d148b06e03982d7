-- The canonical text of a matrix: its cells by row and then by column.
use Rattle.std.specs.Prelude.{ℕ, List, map}
use Rattle.std.specs.FinMap.{entries}
use Rattle.cells.specs.declared.cell.Cell.{Cell}
use Rattle.mm_text.specs.Canonical.{canonical}
use Rattle.hyper_matrix.specs.Counts.{Place, Counts}
use Rattle.hyper_matrix.specs.Matrix.{Matrix}

abbrev pub cell_of : Place × ℕ → Cell
cell_of entry = record { row = entry.0.0; col = entry.0.1; count = entry.1 }

-- the cells of a matrix, by row and then by column
abbrev pub cells_in_order : Counts → List Cell
cells_in_order counts = map cell_of (entries counts)

unfoldable pub matrix_text : Matrix → List ℕ
matrix_text m = canonical m.rows m.cols (cells_in_order m.counts)

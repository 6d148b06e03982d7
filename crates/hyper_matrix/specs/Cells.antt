-- Lists of cells as a caller gives them.
use Rattle.std.specs.Prelude.{ℕ, List, map}
use Rattle.std.specs.List.{filter}
use Rattle.hyper_matrix.specs.Counts.{Place, Counts, built}
use Rattle.cells.specs.declared.cell.Cell.{Cell}
pub use Rattle.cells.specs.Sums.{cell_total, stands_at}

abbrev pub entry_of : Cell → Place × ℕ
entry_of cell = ((cell.row, cell.col), cell.count)

-- what a list of cells builds
abbrev pub built_of : List Cell → Counts
built_of cells = built (map entry_of cells)

abbrev pub place_of : Cell → Place
place_of cell = (cell.row, cell.col)

-- the cells of a list at one place
abbrev pub cells_at : Place → List Cell → List Cell
cells_at q cells = filter (stands_at q) cells

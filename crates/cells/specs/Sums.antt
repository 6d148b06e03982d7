-- What the counts of a list of cells come to, in all and at each place.
use Rattle.std.specs.Prelude.{ℕ, ◌+◌, Bool, ◌==◌, ◌&&◌, List, [], ◌∷◌, Option, Some, None, unwrap_or, if◌then◌else◌}
use Rattle.cells.specs.declared.cell.Cell.{Cell}

-- the counts of a list together
abbrev pub cell_total : List Cell → ℕ
cell_total [] = 0
cell_total (cell ∷ cells) = cell.count + cell_total cells

-- whether a cell stands at this row and column
abbrev pub stands_at : ℕ × ℕ → Cell → Bool
stands_at q cell = (q.0 == cell.row) && (q.1 == cell.col)

-- the counts at one place together, and None where no cell stands there
abbrev pub sum_at : ℕ × ℕ → List Cell → Option ℕ
sum_at q [] = None
sum_at q (cell ∷ cells) = if stands_at q cell then Some (cell.count + unwrap_or (sum_at q cells) 0) else sum_at q cells

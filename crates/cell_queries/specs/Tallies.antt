-- The rows of a list of cells in order, each with the number of its entries and their total.
--     tally r n t        row r has n entries, which come to t
--     joined t ts        a row's first entries and the rows behind them: the first of these has the rest of it, or is
--                        another
--     tallies es         the rows of the cells
--     rows_left ahead es the rows of a cell that was taken and of those behind it
use Rattle.std.specs.Prelude.{ℕ, ◌+◌, ◌==◌, List, [], ◌∷◌, Option, Some, None, if◌then◌else◌}
use Rattle.cells.specs.declared.cell.Cell.{Cell}
use Rattle.hyper_matrix.specs.Counts.{Place}
use Rattle.cell_queries.specs.declared.tally.RowTally.{RowTally}

abbrev pub tally : ℕ → ℕ → ℕ → RowTally
tally row entries total = record { row = row; entries = entries; total = total }

abbrev pub joined : RowTally → List RowTally → List RowTally
joined t [] = t ∷ []
joined t (u ∷ us) =
    if u.row == t.row then tally t.row (t.entries + u.entries) (t.total + u.total) ∷ us else t ∷ (u ∷ us)

abbrev pub tallies : List (Place × ℕ) → List RowTally
tallies [] = []
tallies (e ∷ es) = joined (tally e.0.0 1 e.1) (tallies es)

abbrev pub rows_left : Option Cell → List (Place × ℕ) → List RowTally
rows_left None es = []
rows_left (Some cell) es = joined (tally cell.row 1 cell.count) (tallies es)

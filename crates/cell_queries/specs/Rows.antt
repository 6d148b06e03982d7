-- What the rows of cells in order are: each row once, and with it exactly its cells.
--     row_cells r es     the cells of row r
--     IsRight es t       a row with the number of its cells and their total, of which there are some
--     RowsRise ts        each row is below those behind it
--     HasRow r ts        row r is one of these
use Rattle.std.specs.Prelude.{ℕ, ◌≡◌, ◌<◌, ◌==◌, ◌⊎◌, List, [], ◌∷◌, length}
use Rattle.std.specs.List.{filter, AllByRecursion}
use Rattle.hyper_matrix.specs.Counts.{Place, count_sum}
use Rattle.cell_queries.specs.declared.tally.RowTally.{RowTally}

abbrev pub row_cells : ℕ → List (Place × ℕ) → List (Place × ℕ)
row_cells r es = filter (λ e. e.0.0 == r) es

pub record IsRight (es : List (Place × ℕ)) (t : RowTally) : Type 0 where
  pub some : 0 < t.entries
  pub entries_are : t.entries ≡ length (row_cells t.row es)
  pub total_is : t.total ≡ count_sum (row_cells t.row es)

abbrev pub RowsRise : List RowTally → Type 0
RowsRise [] = Unit {0}
RowsRise (t ∷ ts) = AllByRecursion (λ u. t.row < u.row) ts × RowsRise ts

abbrev pub HasRow : ℕ → List RowTally → Type 0
HasRow r [] = ⊥
HasRow r (t ∷ ts) = (t.row ≡ r) ⊎ HasRow r ts

-- The cells of a range.
use Rattle.std.proofs.Common.{◌≡◌, ℕ, Bool, true, false, cond, List, [], ◌∷◌, map, filter, refl, ap, sym, ◌∙◌}
use Rattle.std.specs.FinMap.{entries}
use Rattle.cells.specs.declared.cell.Cell.{Cell}
use Rattle.hyper_matrix.specs.Counts.{Counts, Place}
use Rattle.cells.specs.Order.{Rise}
use Rattle.hyper_matrix.specs.Cells.{built_of, entry_of}
use Rattle.mm_text.specs.Canonical.{canonical}
use Rattle.cell_queries.specs.declared.range.CellRange.{CellRange}
use Rattle.cell_queries.specs.Ranges.{cells_in}
use Rattle.mm_laws.specs.MatrixText.{cell_of}
use Rattle.snap_query.proofs.TurnLaws.{entries_of_list}

-- the entries of the cells that pass a test are the entries that pass it
step : (b : Bool) (c : Cell) (cells : List Cell) (es : List (Place × ℕ)) → map entry_of cells ≡ es →
    map entry_of (cond b (c ∷ cells) cells) ≡ cond b (entry_of c ∷ es) es
step true c cells es same = ap (λ (l : List (Place × ℕ)). entry_of c ∷ l) same
step false c cells es same = same

pub entries_filtered : (test : Place × ℕ → Bool) (cells : List Cell) →
    map entry_of (filter (λ c. test (entry_of c)) cells) ≡ filter test (map entry_of cells)
entries_filtered test [] = refl
entries_filtered test (c ∷ cells) = step (test (entry_of c)) c _ _ (entries_filtered test cells)

-- and the cells of entries are those that they are of
pub cells_again : (cells : List Cell) → map cell_of (map entry_of cells) ≡ cells
cells_again [] = refl
cells_again (c ∷ cells) = ap (λ (l : List Cell). c ∷ l) (cells_again cells)

-- so the text of the cells of a range is that of the range in the matrix that all cells build
pub range_written : (rows cols : ℕ) (r : CellRange) (m : Counts) (cells list : List Cell) → Rise cells →
    built_of cells ≡ m → map entry_of list ≡ cells_in r (map entry_of cells) →
    canonical rows cols list ≡ canonical rows cols (map cell_of (cells_in r (entries m)))
range_written rows cols r m cells list rises sum kept =
    ap (canonical rows cols)
    (sym (cells_again list) ∙ ap (map cell_of) (kept
    ∙ ap (cells_in r) (sym (entries_of_list cells rises) ∙ ap entries sum)))

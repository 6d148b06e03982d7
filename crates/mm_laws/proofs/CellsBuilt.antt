-- What a list of cells by row and then by column, each place once, says of the matrix that it builds.
use Rattle.std.proofs.Common.{◌≡◌, ℕ, List, [], ◌∷◌, length, map, refl, sym, ap, ◌∙◌}
use Rattle.std.specs.FinMap.{entries, len}
use Rattle.std.proofs.lemmas.List.{length-map}
use Rattle.cells.specs.declared.cell.Cell.{Cell}
use Rattle.cells.specs.Order.{Rise}
use Rattle.mm_text.specs.Canonical.{canonical}
use Rattle.hyper_matrix.proofs.PlaceOrderLaws.{sorted_rising}
use Rattle.hyper_matrix.proofs.SortedListLaws.{built-in_order, entries-in_order, len-in_order}
use Rattle.hyper_matrix.specs.Cells.{built_of, entry_of}
use Rattle.hyper_matrix.specs.Counts.{Counts}
use Rattle.hyper_matrix.specs.Matrix.{matrix}
use Rattle.mm_laws.specs.MatrixText.{cell_of, cells_in_order, matrix_text}

cells_again : (cells : List Cell) → map cell_of (map entry_of cells) ≡ cells
cells_again [] = refl
cells_again (c ∷ cells) = ap (λ (l : List Cell). c ∷ l) (cells_again cells)

-- its cells are those of the matrix
pub cells_built : (cells : List Cell) → Rise cells → cells_in_order (built_of cells) ≡ cells
cells_built cells rises =
    let sorted = sorted_rising cells rises in
    ap (map cell_of)
    (ap entries (built-in_order (map entry_of cells) sorted) ∙ entries-in_order (map entry_of cells) sorted)
    ∙ cells_again cells

-- and as many as the matrix has entries
pub cells_counted : (cells : List Cell) → Rise cells → length cells ≡ len (built_of cells)
cells_counted cells rises =
    let sorted = sorted_rising cells rises in
    sym (ap len (built-in_order (map entry_of cells) sorted) ∙ len-in_order (map entry_of cells) sorted
    ∙ length-map cells entry_of)

-- its text is that of whatever matrix it builds
pub text_of_list : (rows cols : ℕ) (cells : List Cell) (counts : Counts) → Rise cells → built_of cells ≡ counts →
    canonical rows cols cells ≡ matrix_text (matrix rows cols counts)
unfolding matrix_text
text_of_list rows cols cells counts rises same =
    ap (canonical rows cols) (sym (cells_built cells rises)) ∙ ap (λ m. matrix_text (matrix rows cols m)) same

-- What a running sum lists, as a text.
use Rattle.std.proofs.Common.{◌≡◌, ℕ, List, sym, ap, ◌∙◌}
use Rattle.cells.specs.declared.cell.Cell.{Cell}
use Rattle.mm_text.specs.Canonical.{canonical}
use Rattle.hyper_matrix.specs.Matrix.{matrix}
use Rattle.mm_laws.specs.MatrixText.{matrix_text}
use Rattle.mm_laws.proofs.CellsBuilt.{cells_built}
use Rattle.mm_sum.specs.Running.{ListsSum}
use Rattle.mm_sum.specs.Sum.{sum_text}
use Rattle.mm_sum.specs.declared.running_sum.Summed.{Summed}

-- its text is that of the matrix
pub text_listed : (rows cols : ℕ) (cells : List Cell) (sum : Summed) → ListsSum rows cols cells sum →
    canonical sum.rows sum.cols sum.cells.items ≡ sum_text rows cols cells
unfolding matrix_text
text_listed rows cols cells sum lists =
    ap (λ n. canonical n sum.cols sum.cells.items) lists.rows_are
    ∙ ap (λ n. canonical rows n sum.cells.items) lists.cols_are
    ∙ ap (canonical rows cols) (sym (cells_built sum.cells.items lists.rises))
    ∙ ap (λ m. matrix_text (matrix rows cols m)) lists.same

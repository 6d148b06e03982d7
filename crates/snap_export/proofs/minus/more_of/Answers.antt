use Rattle.std.proofs.Common.{◌∙◌, ap, Err}
use Rattle.hyper_matrix.specs.Matrix.{Matrix}
use Rattle.matrix_difference.specs.declared.difference.MinusFault.{MinusFault}
use Rattle.matrix_difference.specs.declared.difference.MinusFault.TheVariants.{Falls}
use Rattle.snap_export.specs.Minus.{sum_in}
use Rattle.snap_export.proofs.SavedLemmas.{passed_is}
use Rattle.snap_export.proofs.MinusLemmas.{falls_same, more_made}
use Rattle.snap_export.proofs.minus.more_of.Goals as goal

pub returns-in_err-cells-clause-falls : goal.returns-in_err-cells-clause-falls
returns-in_err-cells-clause-falls c = λ row col same.
    falls_same _ _ (sum_in c.args.new) (sum_in c.args.old) (row, col)
    (c.as_cells.ensures.builds ∙ ap (λ (m : Matrix). m.counts) c.in_ok-new_sum.ensures)
    (c.as_cells-2.ensures.builds ∙ ap (λ (m : Matrix). m.counts) c.in_ok-old_sum.ensures)
    (c.in_err-cells.ensures.falls row col
    (ap (λ (f : MinusFault). Err f)
    (passed_is c.from_residual-in_err-cells.result c.in_err-cells.field-0.0 (Falls row col)
    c.from_residual-in_err-cells.ensures.1 same)))

pub returns-clause-ok : goal.returns-clause-ok
returns-clause-ok c =
    more_made c.args.new c.args.old c.in_ok-new_sum.new_sum c.in_ok-old_sum.old_sum c.dims-rows.result
    c.as_cells.result.now c.as_cells-2.result.now c.in_ok-cells.cells.items c.in_ok-new_sum.ensures
    c.in_ok-old_sum.ensures c.dims-rows.ensures.value c.dims-rows.ensures.rows c.dims-rows.ensures.cols
    c.as_cells.ensures.builds c.as_cells-2.ensures.builds c.as_cells.ensures.within
    c.in_ok-cells.ensures.difference c.in_ok-cells.ensures.rises c.in_ok-cells.ensures.within

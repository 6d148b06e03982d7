use Rattle.std.proofs.Common.{ℕ, subst, ap, ◌∙◌}
use Rattle.hyper_matrix.specs.Matrix.{Matrix}
use Rattle.mm_sum.specs.Running.{IsSumOf}
use Rattle.mm_sum.proofs.SumLemmas.{cells_fit}
use Rattle.mm_sum.proofs.running_sum.RunningSum.into_cells.Goals as goal

pub returns-in-Ok-clause-ok : goal.returns-in-Ok-clause-ok
returns-in-Ok-clause-ok c rows cols cells is =
    let held = subst (IsSumOf rows cols cells) c.in-Fits.is is in (
      record {
        rows_are = ap (λ (d : ℕ × ℕ). d.0) c.dims-rows.ensures.value ∙ ap (λ (m : Matrix). m.rows) held;
        cols_are = ap (λ (d : ℕ × ℕ). d.1) c.dims-rows.ensures.value ∙ ap (λ (m : Matrix). m.cols) held;
        rises = c.in-Ok.ensures.rises;
        same = c.in-Ok.ensures.sum ∙ ap (λ (m : Matrix). m.counts) held;
      },
      cells_fit c.in-Fits.layers c.in-Ok.ensures.fits rows cols cells held,
    )

pub returns-in-Err-clause-err : goal.returns-in-Err-clause-err
returns-in-Err-clause-err c rows cols cells is =
    cells_fit c.in-Fits.layers c.in-Err.ensures.fits rows cols cells (subst (IsSumOf rows cols cells) c.in-Fits.is is)

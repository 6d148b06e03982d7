use Rattle.std.proofs.Common.{◌∙◌, arith}
use Rattle.std.proofs.lemmas.Result.{err_from_is_err_and}
use Rattle.mm_text.proofs.WriterLemmas.{written_next, stopped_within}
use Rattle.mm_text.proofs.writer.TextWriter.write_cells.Goals as goal

pub returns-in_err-write_cell-clause-err : goal.returns-in_err-write_cell-clause-err
returns-in_err-write_cell-clause-err g c =
    let p = err_from_is_err_and c.from_residual.result c.from_residual.ensures.1 in rw (p.1, p.2) (λ s text h.
    stopped_within _ _ s _ text c.args.cells.now c.loop-cell.cell-index _ _ c.loop-cell-test.true
    (c.in_err-write_cell.ensures.err s _ (c.loop-cell.invariant.written s text h)))

pub loop-cell-preserved : goal.loop-cell-preserved
loop-cell-preserved g c =
    let left = c.loop-cell.invariant.left in
    let next = c.in_ok-write_cell.ensures.left in
    let dims = c.in_ok-write_cell.ensures.dims in
    record {
      dims = (dims.0 ∙ c.loop-cell.invariant.dims.0, dims.1 ∙ c.loop-cell.invariant.dims.1);
      left = omega arith;
      failures = c.in_ok-write_cell.ensures.failures ∙ c.loop-cell.invariant.failures;
      written = λ s text h.
          written_next _ _ s _ text c.args.cells.now c.loop-cell.cell-index _ _ c.loop-cell-test.true
          (c.in_ok-write_cell.ensures.ok s _ (c.loop-cell.invariant.written s text h));
    }

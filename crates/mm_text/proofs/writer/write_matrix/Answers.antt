use Rattle.std.proofs.lemmas.Result.{err_from_is_err_and, on_ok_weaker, IfErr-weaker}
use Rattle.byte_io.proofs.BufferLemmas.{written_nothing}
use Rattle.mm_text.proofs.writer.write_matrix.Goals as goal

pub returns-in_err-write_cells-clause-err : goal.returns-in_err-write_cells-clause-err
returns-in_err-write_cells-clause-err g c =
    let p = err_from_is_err_and c.from_residual.result c.from_residual.ensures.1 in rw (p.1, p.2)
    (c.in_err-write_cells.ensures.err _ _ (written_nothing _ _ _ _ _ c.new-writer.ensures.taken
    c.new-writer.ensures.pending))

pub returns-clause-ok : goal.returns-clause-ok
returns-clause-ok g c =
    let start = written_nothing _ _ c.args.w.now _ _ c.new-writer.ensures.taken c.new-writer.ensures.pending in
    on_ok_weaker c.finish.result (λ h. h c.args.w.now _ (c.in_ok-write_cells.ensures.ok _ _ start)) c.finish.ensures.ok

pub returns-clause-err : goal.returns-clause-err
returns-clause-err g c =
    let start = written_nothing _ _ c.args.w.now _ _ c.new-writer.ensures.taken c.new-writer.ensures.pending in
    IfErr-weaker c.finish.result _ _ (λ f h. h c.args.w.now _ (c.in_ok-write_cells.ensures.ok _ _ start))
    c.finish.ensures.err

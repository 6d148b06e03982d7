use Rattle.std.proofs.Common.{[]}
use Rattle.std.proofs.lemmas.Result.{err_from_is_err_and}
use Rattle.snap_file.proofs.WriteLemmas.{writing_finished, writing_stopped}
use Rattle.snap_file.proofs.writer.ByteWriter.finish.Goals as goal

pub returns-clause-ok : goal.returns-clause-ok
returns-clause-ok g c = λ s all h. writing_finished _ _ s _ _ all _ c.flush.new.self (rw (← c.self.view_is) at h)
    (c.in_ok-flush.ensures.ok s) c.in_ok-flush.ensures.pending

pub returns-in_err-flush-clause-err : goal.returns-in_err-flush-clause-err
returns-in_err-flush-clause-err g c =
    let p = err_from_is_err_and c.from_residual.result c.from_residual.ensures.1 in
    rw (p.1, p.2) (λ s all h. writing_stopped _ _ s _ _ all [] _ _ (rw (← c.self.view_is) at h)
    (c.in_err-flush.ensures.err s))

use Rattle.std.proofs.Common.{refl}
use Rattle.std.proofs.lemmas.Result.{err_from_is_err_and}
use Rattle.snap_file.proofs.WriteLemmas.{writing_on, writing_stopped}
use Rattle.snap_file.proofs.writer.ByteWriter.make_room.Goals as goal

pub returns-in_err-make_room-clause-err : goal.returns-in_err-make_room-clause-err
returns-in_err-make_room-clause-err g c =
    let p = err_from_is_err_and c.from_residual.result c.from_residual.ensures.1 in
    rw (p.1, p.2) (λ s all left h. writing_stopped _ _ s _ _ all left _ _ (rw (← c.self.view_is) at h)
    (c.in_err-make_room.ensures.err s))

pub returns-clause-ok : goal.returns-clause-ok
returns-clause-ok g c = λ s all left h.
    writing_on _ _ s _ _ all left _ _ (rw (← c.self.view_is) at h) refl (c.in_ok-make_room.ensures.ok s)

use Rattle.std.proofs.lemmas.Result.{err_from_is_err_and}
use Rattle.snap_file.proofs.WriteLemmas.{writing_check}
use Rattle.snap_file.proofs.write.write_check.Goals as goal

pub returns-in_err-make_room-clause-err : goal.returns-in_err-make_room-clause-err
returns-in_err-make_room-clause-err g c =
    let p = err_from_is_err_and c.from_residual.result c.from_residual.ensures.1 in rw (p.1, p.2) (λ s all left h.
    c.in_err-make_room.ensures.err s all _ h)

pub returns-clause-ok : goal.returns-clause-ok
returns-clause-ok g c = λ s all front left whole h.
    writing_check _ _ s _ all front left c.make_room.new.self c.push_u32.new.self c.sum-sum.result c.sum-sum.ensures
    whole
    (c.in_ok-make_room.ensures.ok s all _ h) c.push_u32.ensures.taken c.push_u32.ensures.pending
    c.push_u32.ensures.remainder

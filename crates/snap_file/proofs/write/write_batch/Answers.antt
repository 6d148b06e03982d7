use Rattle.std.proofs.lemmas.Result.{err_from_is_err_and}
use Rattle.snap_file.proofs.WriteLemmas.{writing_more}
use Rattle.snap_file.proofs.write.write_batch.Goals as goal

pub returns-in_err-make_room-clause-err : goal.returns-in_err-make_room-clause-err
returns-in_err-make_room-clause-err g c =
    let p = err_from_is_err_and c.from_residual.result c.from_residual.ensures.1 in rw (p.1, p.2) (λ s all left h.
    c.in_err-make_room.ensures.err s all _ h)

pub returns-in_err-write_matrix-clause-err : goal.returns-in_err-write_matrix-clause-err
returns-in_err-write_matrix-clause-err g c =
    let p = err_from_is_err_and c.from_residual-in_err-write_matrix.result
    c.from_residual-in_err-write_matrix.ensures.1 in rw (p.1, p.2) (λ s all left h.
    c.in_err-write_matrix.ensures.err s all left
    (writing_more _ _ s _ all _ _ left c.push_u64.new.self c.push_u64-2.new.self
    (writing_more _ _ s _ all _ _ left c.make_room.new.self c.push_u64.new.self
    (c.in_ok-make_room.ensures.ok s all _ (rw (← c.batch.view_is) at h))
    c.push_u64.ensures.taken c.push_u64.ensures.pending c.push_u64.ensures.remainder)
    c.push_u64-2.ensures.taken c.push_u64-2.ensures.pending c.push_u64-2.ensures.remainder))

pub returns-clause-ok : goal.returns-clause-ok
returns-clause-ok g c = λ s all left h. c.in_ok-write_matrix.ensures.ok s all left
    (writing_more _ _ s _ all _ _ left c.push_u64.new.self c.push_u64-2.new.self
    (writing_more _ _ s _ all _ _ left c.make_room.new.self c.push_u64.new.self
    (c.in_ok-make_room.ensures.ok s all _ (rw (← c.batch.view_is) at h))
    c.push_u64.ensures.taken c.push_u64.ensures.pending c.push_u64.ensures.remainder)
    c.push_u64-2.ensures.taken c.push_u64-2.ensures.pending c.push_u64-2.ensures.remainder)

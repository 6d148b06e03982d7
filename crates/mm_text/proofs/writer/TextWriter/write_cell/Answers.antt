use Rattle.std.proofs.lemmas.Result.{err_from_is_err_and}
use Rattle.byte_io.proofs.SinkLemmas.{has_stopped_longer}
use Rattle.byte_io.proofs.BufferLemmas.{written_more}
use Rattle.mm_text.proofs.writer.TextWriter.write_cell.Goals as goal

pub returns-in_err-make_room-clause-err : goal.returns-in_err-make_room-clause-err
returns-in_err-make_room-clause-err g c =
    let p = err_from_is_err_and c.from_residual.result c.from_residual.ensures.1 in rw (p.1, p.2) (λ s text h.
    has_stopped_longer _ _ s _ _ _ _ (c.in_err-make_room.ensures.err s text h))

pub returns-clause-ok : goal.returns-clause-ok
returns-clause-ok g c = λ s text h.
    written_more _ _ s _ text _ _ _ (c.in_ok-make_room.ensures.ok s text h) c.push_cell.ensures.taken
    c.push_cell.ensures.pending

use Rattle.std.proofs.Common.{ap, length, ◌+◌}
use Rattle.byte_io.proofs.BufferLemmas.{written_handed_on, written_stopped}
use Rattle.byte_io.proofs.write_buffer.WriteBuffer.flush.Goals as goal

pub returns-in-Err-clause-err : goal.returns-in-Err-clause-err
returns-in-Err-clause-err g c = λ s text h.
    written_stopped _ _ s _ _ text _ _ (rw (← c.self.view_is) at h)
    (rw c.as_slice-bytes.ensures.value at c.in-Err.ensures.err)

pub returns-clause-ok : goal.returns-clause-ok
returns-clause-ok g c = λ s text h.
    written_handed_on _ _ s _ _ text _ _ (rw (← c.self.view_is) at h)
    (rw c.as_slice-bytes.ensures.value at c.in_default.ensures.ok)
    (ap (λ l. c.self.inside.taken + length l) c.as_slice-bytes.ensures.value) c.clear.ensures

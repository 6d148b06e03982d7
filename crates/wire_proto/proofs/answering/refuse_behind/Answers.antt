use Rattle.wire_proto.specs.Closing.{held_sent, held_cut}
use Rattle.wire_proto.proofs.answering.refuse_behind.Goals as goal

pub returns-in-Ok-clause-closes : goal.returns-in-Ok-clause-closes
returns-in-Ok-clause-closes g c =
    let h = c.in-Ok.ensures.sends in (h.0, h.1, held_sent _ h.2.1 (rw (← h.2.0) c.refuse.ensures))

pub returns-in-Err-clause-closes : goal.returns-in-Err-clause-closes
returns-in-Err-clause-closes g c =
    let h = c.in-Err.ensures.sends in (h.0, h.1, held_cut h.2.0 h.2.2 h.2.1)

use Rattle.wire_proto.specs.Closing.{part}
use Rattle.wire_proto.proofs.sending.close.Goals as goal

pub returns-in-Err : goal.returns-in-Err
returns-in-Err g c = let h = c.in-Err.ensures in part h.0 (rw (← c.as_slice.ensures.value) h.2) h.1

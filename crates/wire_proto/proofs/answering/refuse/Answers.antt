use Rattle.wire_proto.proofs.answering.refuse.Goals as goal

pub returns : goal.returns
returns g c = rw (← c.code_of.ensures, ← c.end_of.ensures, ← c.refused.ensures) c.close.ensures

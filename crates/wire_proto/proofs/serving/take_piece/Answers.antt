use Rattle.wire_proto.proofs.SessionLemmas.{out_of_memory}
use Rattle.wire_proto.proofs.serving.take_piece.Goals as goal

pub returns-in-Err-clause-err : goal.returns-in-Err-clause-err
returns-in-Err-clause-err g c = out_of_memory _ _ _ _ _ _ _ _ _ _ _ c.refuse.ensures

use Rattle.wire_proto.proofs.Repeats.{all_adds}
use Rattle.wire_proto.proofs.laws.sessions_accept_fresh_batches.Goals as goal

pub returns : goal.returns
returns c = λ setup state after ms w a. let h = all_adds setup state after ms w a in (h.0, h.1.0, h.1.1, h.2)

use Rattle.wire_proto.proofs.Repeats.{parts_answered}
use Rattle.wire_proto.proofs.laws.messages_are_answered_in_parts.Goals as goal

pub returns : goal.returns
returns c = λ setup state after requests ms w go a. parts_answered setup state after requests ms w go a

use Rattle.wire_proto.proofs.OneAnswer.{has_answers, answered_once}
use Rattle.wire_proto.proofs.laws.messages_have_one_answer.Goals as goal

pub returns : goal.returns
returns c = record {
  some = has_answers;
  one = λ setup state after after' ms bytes bytes' a b. answered_once setup state ms bytes bytes' after after' a b;
}

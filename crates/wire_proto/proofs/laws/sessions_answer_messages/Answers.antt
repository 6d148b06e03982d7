use Rattle.wire_frames.proofs.StreamLemmas.{messages_none, messages_stop, messages_bad, messages_request}
use Rattle.wire_proto.proofs.StreamLemmas.{answered_messages}
use Rattle.wire_proto.proofs.laws.sessions_answer_messages.Goals as goal

pub returns : goal.returns
returns g c = record {
  answered = λ setup s t given replies kept requests a b. answered_messages _ setup s t given requests replies kept a b;
  none = messages_none;
  stop = messages_stop;
  bad = λ kept rest fault h. messages_bad kept fault rest h;
  request = λ kept rest r h n. messages_request kept r rest h n;
}

use Rattle.wire_proto.proofs.Repeats.{repeat_replied}
use Rattle.wire_proto.proofs.laws.repeats_get_their_reply.Goals as goal

pub returns : goal.returns
returns c = λ setup state mid later after client n put again first second between k k' p p' one e all two e'.
    repeat_replied setup state mid later after client n put again first second between k k' p p' one e all two e'

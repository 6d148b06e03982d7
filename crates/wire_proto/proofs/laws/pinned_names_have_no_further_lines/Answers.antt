use Rattle.wire_proto.proofs.PinnedLemmas.{just_pinned}
use Rattle.wire_proto.proofs.laws.pinned_names_have_no_further_lines.Goals as goal

pub returns : goal.returns
returns c = λ t name h. just_pinned t name h

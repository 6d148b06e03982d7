use Rattle.wire_proto.proofs.AskLemmas.{stored_answered}
use Rattle.wire_proto.proofs.asking.ask_stored.Goals as goal

pub returns-clause-reply : goal.returns-clause-reply
returns-clause-reply g c = stored_answered _ _ _ _ _ _ c.stored.ensures.gives c.counts.ensures

use Rattle.plain_engine.proofs.LoadLaws.{none_refused}
use Rattle.plain_engine.proofs.load.accepted_lists_load.Goals as goal

pub returns : goal.returns
returns c = none_refused

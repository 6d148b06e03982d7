use Rattle.snap_salvage.proofs.FrontLemmas.{whole_front}
use Rattle.snap_salvage.proofs.laws.whole_logs_are_fronts.Goals as goal

pub returns : goal.returns
returns c = whole_front

use Rattle.snap_salvage.proofs.FrontLemmas.{sound_before}
use Rattle.snap_salvage.proofs.laws.pages_before_faults_have_none.Goals as goal

pub returns : goal.returns
returns c = sound_before

use Rattle.snap_salvage.proofs.FrontLemmas.{fault_front}
use Rattle.snap_salvage.proofs.laws.fronts_end_at_faults.Goals as goal

pub returns : goal.returns
returns c = fault_front

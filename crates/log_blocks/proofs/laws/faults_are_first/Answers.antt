use Rattle.log_blocks.proofs.Sound.{fault_holds}
use Rattle.log_blocks.proofs.laws.faults_are_first.Goals as goal

pub returns : goal.returns
returns c = fault_holds

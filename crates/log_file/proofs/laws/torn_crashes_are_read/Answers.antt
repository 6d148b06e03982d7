use Rattle.log_file.specs.Logs.{MayHoldNext, IsBeforeOrAfter}
use Rattle.log_file.proofs.LogLemmas.{held_is_read}
use Rattle.log_file.proofs.RunLemmas.{leaves_to}
use Rattle.log_file.proofs.laws.torn_crashes_are_read.Goals as goal

pub returns : goal.returns
returns g c old new log block is is_block crashes =
    leaves_to g.D.LogDisk.moment g.D.LogDisk.left_since (MayHoldNext log block) (IsBeforeOrAfter log block) old new
    (λ left held. held_is_read log block left is is_block held) crashes

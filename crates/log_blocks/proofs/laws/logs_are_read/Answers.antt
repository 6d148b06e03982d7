use Rattle.log_blocks.proofs.Sound.{logs_read}
use Rattle.log_blocks.proofs.laws.logs_are_read.Goals as goal

pub returns : goal.returns
returns c = logs_read

use Rattle.log_blocks.proofs.Sound.{read_holds}
use Rattle.log_blocks.proofs.laws.blocks_read_are_written.Goals as goal

pub returns : goal.returns
returns c = read_holds

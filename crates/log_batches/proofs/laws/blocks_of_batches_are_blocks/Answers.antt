use Rattle.log_batches.proofs.Chunks.{is_block}
use Rattle.log_batches.proofs.laws.blocks_of_batches_are_blocks.Goals as goal

pub returns : goal.returns
returns c = is_block

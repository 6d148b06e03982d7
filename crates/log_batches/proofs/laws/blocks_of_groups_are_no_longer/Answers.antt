use Rattle.log_batches.proofs.Groups.{alone, parts}
use Rattle.log_batches.proofs.laws.blocks_of_groups_are_no_longer.Goals as goal

pub returns : goal.returns
returns c = record { parts = parts; alone = alone }

use Rattle.std.proofs.Common.{refl}
use Rattle.mm_sum.proofs.SumLemmas.{block_added}
use Rattle.mm_sum.proofs.running_sum.with_block.Goals as goal

pub returns : goal.returns
returns c = block_added c.args.layers c.in_ok-after.after c.args.block.now c.args.block.now refl c.in_ok-after.ensures

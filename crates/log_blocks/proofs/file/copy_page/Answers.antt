use Rattle.std.proofs.Common.{arith}
use Rattle.log_blocks.proofs.FilePages.{listed_bytes}
use Rattle.log_blocks.proofs.file.copy_page.Goals as goal

pub returns : goal.returns
returns c = listed_bytes 4096 c.args.at c.loop-i.page c.args.file.now c.loop-i.invariant.0
    (λ k lt. c.loop-i.invariant.1 k (omega arith))

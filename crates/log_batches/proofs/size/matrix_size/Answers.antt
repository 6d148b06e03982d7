use Rattle.std.proofs.Common.{arith}
use Rattle.log_batches.proofs.Sizes.{length-matrix}
use Rattle.log_batches.proofs.size.matrix_size.Goals as goal

pub returns : goal.returns
returns c = let n = length-matrix c.args.m.now.counts in
    omega (arith, c.entries.ensures, c.saturating_mul.ensures, c.saturating_add.ensures)

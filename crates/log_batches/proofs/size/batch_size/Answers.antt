use Rattle.std.proofs.Common.{arith}
use Rattle.batch_store.specs.Batches.{submission}
use Rattle.log_batches.proofs.Sizes.{length-batch}
use Rattle.log_batches.proofs.size.batch_size.Goals as goal

pub returns : goal.returns
returns c =
    let b = c.batch.inside in
    let n = length-batch (submission b.client b.number b.matrix) in
    rw (← c.batch.view_is) (omega (arith, c.matrix_size.ensures, c.saturating_add.ensures))

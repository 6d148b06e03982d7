use Rattle.std.proofs.Common.{◌≡◌, take}
use Rattle.batch_store.specs.Batches.{values}
use Rattle.log_read.specs.Logs.{batches_in}
use Rattle.log_read.proofs.flat.all_batches.Given as goal

abbrev pub invariant-all : goal.invariant-all
invariant-all l = values l.list.items ≡ batches_in (take l.block-index l.blocks)

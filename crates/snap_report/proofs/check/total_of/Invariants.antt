use Rattle.std.proofs.Common.{◌≡◌, take}
use Rattle.batch_store.specs.Books.{list_total}
use Rattle.batch_store.specs.Batches.{values}
use Rattle.snap_report.proofs.check.total_of.Given as goal

abbrev pub invariant-loop-batch : goal.invariant-loop-batch
invariant-loop-batch l = l.sum ≡ list_total (values (take l.batch-index l.batches))

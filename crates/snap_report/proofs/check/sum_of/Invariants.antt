use Rattle.std.proofs.Common.{◌≡◌, take}
use Rattle.batch_store.specs.Batches.{values}
use Rattle.snap_report.proofs.CheckLemmas.{sum_of}
use Rattle.snap_report.proofs.check.sum_of.Given as goal

abbrev pub invariant-loop-batch : goal.invariant-loop-batch
invariant-loop-batch l = record {
  rows : l.layers.rows ≡ l.setup.rows;
  cols : l.layers.cols ≡ l.setup.cols;
  sum : l.layers.counts ≡ sum_of l.base.whole.counts (values (take l.batch-index l.batches));
}

use Rattle.std.proofs.Common.{◌≡◌, take}
use Rattle.hyper_matrix.specs.Cells.{built_of}
use Rattle.hyper_matrix.specs.Counts.{ewise_add}
use Rattle.batch_store.specs.Accepted.{list_sum}
use Rattle.batch_store.specs.Batches.{values}
use Rattle.batch_store.proofs.batch_sum.with_batches.Given as goal

abbrev pub invariant-batches : goal.invariant-batches
invariant-batches l = record {
  rows : l.sum.rows ≡ l.fn.m.rows;
  cols : l.sum.cols ≡ l.fn.m.cols;
  told : ewise_add l.sum.counts (built_of l.cells.items)
      ≡ ewise_add l.fn.m.counts (list_sum (values (take l.batch-index l.batches)));
}

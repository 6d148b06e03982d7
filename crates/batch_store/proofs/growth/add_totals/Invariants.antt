use Rattle.std.proofs.Common.{◌≡◌, ◌+◌, take}
use Rattle.batch_store.specs.Batches.{values}
use Rattle.batch_store.specs.Books.{list_total}
use Rattle.batch_store.proofs.growth.add_totals.Given as goal

abbrev pub invariant-batches : goal.invariant-batches
invariant-batches l = record {
  told : l.total ≡ l.fn.start + list_total (values (take l.batch-index l.batches));
}

use Rattle.std.proofs.Common.{◌≡◌, take}
use Rattle.batch_store.specs.Batches.{values}
use Rattle.batch_store.specs.Growth.{all_widened}
use Rattle.batch_store.proofs.growth.widen_all.Given as goal

abbrev pub invariant-batches : goal.invariant-batches
invariant-batches l = record {
  told : values l.list.items ≡ all_widened l.setup (values (take l.batch-index l.batches));
}

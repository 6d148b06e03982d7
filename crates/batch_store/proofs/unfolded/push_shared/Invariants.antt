use Rattle.std.proofs.Common.{◌≡◌, ◌++◌, take}
use Rattle.batch_store.specs.Batches.{values}
use Rattle.batch_store.proofs.unfolded.push_shared.Given as goal

abbrev pub invariant-batches : goal.invariant-batches
invariant-batches l = record {
  told : values l.list.items ≡ values l.fn.list.items ++ values (take l.batch-index l.batches);
}

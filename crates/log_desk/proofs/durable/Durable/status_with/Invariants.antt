use Rattle.std.proofs.Common.{◌≡◌, ◌++◌, take}
use Rattle.batch_store.specs.Batches.{entries_of, values}
use Rattle.locked_engine.specs.Versions.{version_status}
use Rattle.log_desk.proofs.durable.Durable.status_with.Given as goal

abbrev pub invariant-loop-batch : goal.invariant-loop-batch
invariant-loop-batch g l =
    l.status ≡ version_status (l.self ++ entries_of (values (take l.batch-index l.batches)))

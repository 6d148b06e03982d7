use Rattle.std.proofs.Common.{◌≡◌, ◌++◌, take}
use Rattle.batch_store.specs.Batches.{entries_of, values}
use Rattle.log_desk.proofs.memory.write.Given as goal

abbrev pub invariant-loop-batch : goal.invariant-loop-batch
invariant-loop-batch l = l.entries.items ≡ l.initial.entries.items ++ entries_of (values (take l.batch-index l.batches))

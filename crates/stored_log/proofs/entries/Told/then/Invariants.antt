use Rattle.std.proofs.Common.{◌++◌}
use Rattle.batch_store.specs.Batches.{entries_of, values}
use Rattle.stored_log.proofs.entries.Told.then.Given as goal

abbrev pub ghost-of_batches : goal.ghost-of_batches
ghost-of_batches a = a.self.now.entries ++ entries_of (values a._batches.now)

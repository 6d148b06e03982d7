use Rattle.std.proofs.Common.{◌≡◌, ◌+◌, ◌<◌, ℕ, slice_get}
use Rattle.batch_store.specs.Batches.{entries_of, values}
use Rattle.log_join.specs.Joins.{known_entries}
use Rattle.log_join.proofs.known.judge_shared.Given as goal

abbrev pub invariant-batches : goal.invariant-batches
invariant-batches l = (j : ℕ) → j < l.i →
    slice_get (known_entries l.list) (l.first + j) ≡ slice_get (entries_of (values l.batches)) j

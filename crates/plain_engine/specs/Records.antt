-- Records that follow a list of accepted batches.
use Rattle.std.specs.Prelude.{◌≡◌, ℕ, List}
use Rattle.batch_store.specs.Batches.{Submission}
use Rattle.batch_store.specs.Parts.{concerned}

-- The record is, in order, the batches of the list that concern shard s of k: the same clients, numbers and matrices,
-- cell by cell.
abbrev pub Follows : ℕ → ℕ → List Submission → List Submission → Type 0
Follows s k record' list = record' ≡ concerned s k list

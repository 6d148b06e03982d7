use Rattle.std.proofs.Common.{◌≡◌, take}
use Rattle.layer_compaction.specs.Shared.{values}
use Rattle.batch_store.specs.Walks.{entries_each, entries_left}
use Rattle.batch_store.proofs.piece_cells.start_each.Given as goal

abbrev pub invariant-matrices : goal.invariant-matrices
invariant-matrices l = entries_left (take l.place l.left) ≡ entries_each (values (take l.place l.list))

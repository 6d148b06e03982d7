use Rattle.std.proofs.Common.{◌≡◌}
use Rattle.layer_compaction.specs.Shared.{values}
use Rattle.batch_store.proofs.pieces.shared.Given as goal

abbrev pub invariant-parts : goal.invariant-parts
invariant-parts l = values l.list.items ≡ l.yielded

use Rattle.std.proofs.Common.{◌≡◌}
use Rattle.layer_compaction.specs.Shared.{values}
use Rattle.layer_cascade.proofs.compaction.settle.Given as goal

abbrev pub invariant-layers : goal.invariant-layers
invariant-layers l = values l.layers ≡ values l.fn.layers

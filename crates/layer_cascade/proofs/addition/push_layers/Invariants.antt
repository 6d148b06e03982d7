use Rattle.std.proofs.Common.{◌≡◌, ◌++◌, take}
use Rattle.layer_compaction.specs.Shared.{values}
use Rattle.layer_cascade.proofs.addition.push_layers.Given as goal

abbrev pub invariant-layers : goal.invariant-layers
invariant-layers l = values l.out.items ≡ values l.fn.out.items ++ values (take l.layer-index l.layers)

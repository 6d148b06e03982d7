use Rattle.std.proofs.Common.{◌≡◌, is_some, take}
use Rattle.std.specs.FinMap.{get}
use Rattle.layer_compaction.specs.Shared.{content, values, all_counts}
use Rattle.layer_cascade.proofs.row_entries.layers_have.Given as goal

abbrev pub invariant-layers : goal.invariant-layers
invariant-layers l = l.have ≡ is_some (get (content (take l.layer-index (all_counts (values l.layers)))) (l.row, l.col))

use Rattle.std.proofs.Common.{◌≡◌, take}
use Rattle.hyper_matrix.specs.Counts.{total}
use Rattle.layer_compaction.specs.Shared.{content, values, all_counts}
use Rattle.layer_cascade.proofs.layers.Layers.total.Given as goal

abbrev pub invariant-totals : goal.invariant-totals
invariant-totals l = l.sum ≡ total (content (take l.layer-index (all_counts (values l.layer-items))))

use Rattle.std.proofs.Common.{◌≡◌, take}
use Rattle.hyper_matrix.specs.Matrix.{matrix}
use Rattle.layer_compaction.specs.Shared.{content, values, all_counts}
use Rattle.layer_cascade.proofs.below.side_by_side.Given as goal

abbrev pub invariant-layers : goal.invariant-layers
invariant-layers l = l.all ≡ matrix l.rows l.cols (content (take l.layer-index (all_counts (values l.layers))))

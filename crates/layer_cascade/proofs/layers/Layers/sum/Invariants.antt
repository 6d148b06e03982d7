use Rattle.std.proofs.Common.{◌≡◌, take}
use Rattle.hyper_matrix.specs.Matrix.{matrix}
use Rattle.layer_compaction.specs.Shared.{content, values, all_counts}
use Rattle.layer_cascade.proofs.layers.Layers.sum.Given as goal

abbrev pub invariant-layers : goal.invariant-layers
invariant-layers l = l.sum ≡ matrix l.self.rows l.self.cols
    (content (take l.layer-index (all_counts (values l.layer-items))))

use Rattle.std.proofs.Common.{◌≡◌, take}
use Rattle.hyper_matrix.specs.Counts.{ewise_add}
use Rattle.merged_cells.specs.Within.{LieWithin}
use Rattle.layer_compaction.specs.Shared.{content, values, all_counts}
use Rattle.layer_cascade.proofs.layers.Layers.add_to.Given as goal

abbrev pub invariant-layers : goal.invariant-layers
invariant-layers l = record {
  told : l.sources ≡ ewise_add l.fn.sources (content (take l.layer-index (all_counts (values l.layer-items))));
  within : LieWithin l.self.rows l.self.cols l.fn.sources → LieWithin l.self.rows l.self.cols l.sources;
}

use Rattle.std.proofs.Common.{◌≡◌, ◌≤◌, take}
use Rattle.hyper_matrix.specs.Counts.{total}
use Rattle.layer_compaction.specs.Shared.{content, values, all_counts}
use Rattle.hyper_matrix.specs.RowOf.{row_of}
use Rattle.layer_cascade.proofs.layers.Layers.row_counts.Given as goal

abbrev pub invariant-rows : goal.invariant-rows
invariant-rows l = record {
  summed : l.sum ≡ total (row_of (content (take l.layer-index (all_counts (values l.layer-items)))) l.row);
  outside : l.self.rows ≤ l.row → l.sum ≡ 0;
}

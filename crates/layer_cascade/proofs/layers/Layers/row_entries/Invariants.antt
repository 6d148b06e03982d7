use Rattle.std.proofs.Common.{◌≤◌, length, drop}
use Rattle.layer_compaction.specs.Shared.{content, values, all_counts}
use Rattle.layer_cascade.specs.Columns.{HasColumns}
use Rattle.layer_cascade.proofs.layers.Layers.row_entries.Given as goal

abbrev pub invariant-layers : goal.invariant-layers
invariant-layers l = record {
  columns : HasColumns (content (all_counts (values (drop l.place l.layers)))) l.self.rows l.row l.entries;
  place : l.place ≤ length l.layers;
}

abbrev pub decreases-layers : goal.decreases-layers
decreases-layers l = l.place

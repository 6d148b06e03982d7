use Rattle.std.proofs.Common.{◌≡◌, ◌≤◌, ◌⊎◌, None, take}
use Rattle.std.specs.FinMap.{get}
use Rattle.layer_compaction.specs.Shared.{content, values, all_counts}
use Rattle.layer_cascade.proofs.layers.Layers.get.Given as goal

abbrev pub invariant-counts : goal.invariant-counts
invariant-counts l = record {
  found : l.count ≡ get (content (take l.layer-index (all_counts (values l.layer-items)))) (l.row, l.col);
  outside : (l.self.rows ≤ l.row) ⊎ (l.self.cols ≤ l.col) → l.count ≡ None;
}

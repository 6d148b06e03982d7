use Rattle.std.proofs.Common.{◌≡◌, ℕ, ◌≤◌, ◌⊎◌, None, take}
use Rattle.std.specs.FinMap.{get}
use Rattle.layer_compaction.specs.Shared.{content, values, all_counts, HaveDims}
use Rattle.layer_compaction.proofs.runs.count_in.Given as goal

abbrev pub invariant-counts : goal.invariant-counts
invariant-counts l = record {
  found : l.count ≡ get (content (take l.run-index (all_counts (values l.runs)))) (l.row, l.col);
  outside : (rows cols : ℕ) → HaveDims rows cols (values l.runs) → (rows ≤ l.row) ⊎ (cols ≤ l.col) → l.count ≡ None;
}

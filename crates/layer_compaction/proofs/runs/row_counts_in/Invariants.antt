use Rattle.std.proofs.Common.{◌≡◌, ℕ, ◌≤◌, take}
use Rattle.hyper_matrix.specs.Counts.{total}
use Rattle.hyper_matrix.specs.RowOf.{row_of}
use Rattle.layer_compaction.specs.Shared.{content, values, all_counts, HaveDims}
use Rattle.layer_compaction.proofs.runs.row_counts_in.Given as goal

abbrev pub invariant-rows : goal.invariant-rows
invariant-rows l = record {
  summed : l.sum ≡ total (row_of (content (take l.run-index (all_counts (values l.runs)))) l.row);
  outside : (rows cols : ℕ) → HaveDims rows cols (values l.runs) → rows ≤ l.row → l.sum ≡ 0;
}

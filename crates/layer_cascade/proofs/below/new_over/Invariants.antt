use Rattle.std.proofs.Common.{◌≡◌, ◌+◌}
use Rattle.std.specs.FinMap.{entries}
use Rattle.hyper_matrix.specs.Counts.{ewise_add}
use Rattle.layer_compaction.specs.Shared.{content, values, all_counts}
use Rattle.layer_compaction.specs.Runs.{count_new}
use Rattle.layer_cascade.proofs.below.new_over.Given as goal

abbrev pub invariant-cells : goal.invariant-cells
invariant-cells l = record {
  can : goal.iterator-cells.can_next l.cell-iterator;
  finite : goal.iterator-cells.is_finite l.cell-iterator;
  rest : l.new + count_new (ewise_add l.below.counts (content (all_counts (values l.before)))) l.cell-iterator ≡ count_new
      (ewise_add l.below.counts (content (all_counts (values l.before)))) (entries l.m.counts);
}

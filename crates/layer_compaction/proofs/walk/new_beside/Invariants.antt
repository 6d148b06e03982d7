use Rattle.std.proofs.Common.{◌≡◌, ◌+◌, T}
use Rattle.std.specs.FinMap.{entries, is_sorted}
use Rattle.hyper_matrix.specs.Counts.{place_cmp}
use Rattle.layer_compaction.specs.Runs.{count_new, left_with}
use Rattle.layer_compaction.proofs.WalkLemmas.{Decides}
use Rattle.layer_compaction.proofs.walk.new_beside.Given as goal

abbrev pub invariant-cells : goal.invariant-cells
invariant-cells l = record {
  can : goal.iterator-cells.can_next l.cell-iterator;
  finite : goal.iterator-cells.is_finite l.cell-iterator;
  rises : T (is_sorted place_cmp l.cell-iterator);
  others_rise : T (is_sorted place_cmp (left_with l.head l.others));
  decides : Decides l.before.counts (left_with l.head l.others) l.cell-iterator;
  rest : l.new + count_new l.before.counts l.cell-iterator ≡ count_new l.before.counts (entries l.m.counts);
}

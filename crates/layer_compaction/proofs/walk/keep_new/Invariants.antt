use Rattle.std.proofs.Common.{T, map, drop}
use Rattle.std.specs.FinMap.{is_sorted}
use Rattle.hyper_matrix.specs.Cells.{entry_of}
use Rattle.hyper_matrix.specs.Counts.{place_cmp}
use Rattle.layer_compaction.specs.Runs.{left_with}
use Rattle.layer_compaction.proofs.WalkLemmas.{Decides}
use Rattle.layer_compaction.proofs.WithoutLemmas.{KeptUpTo}
use Rattle.layer_compaction.proofs.walk.keep_new.Given as goal

abbrev pub invariant-cells : goal.invariant-cells
invariant-cells l = record {
  until : KeptUpTo l.before.counts l.fn.cells l.cells l.i l.kept;
  rises : T (is_sorted place_cmp (map entry_of (drop l.i l.fn.cells)));
  others_rise : T (is_sorted place_cmp (left_with l.head l.others));
  decides : Decides l.before.counts (left_with l.head l.others) (map entry_of (drop l.i l.fn.cells));
}

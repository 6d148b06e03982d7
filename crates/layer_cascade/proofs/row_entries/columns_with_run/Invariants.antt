use Rattle.std.proofs.Common.{◌≡◌, ◌+◌, ◌-◌, ◌≤◌, ◌^◌}
use Rattle.std.specs.FinMap.{len}
use Rattle.hyper_matrix.specs.Counts.{ewise_add}
use Rattle.hyper_matrix.specs.RowOf.{row_of}
use Rattle.layer_compaction.specs.Shared.{content, values, all_counts}
use Rattle.layer_cascade.proofs.RowEntryLemmas.{row_before}
use Rattle.layer_cascade.proofs.row_entries.columns_with_run.Given as goal

abbrev pub invariant-columns : goal.invariant-columns
invariant-columns l = record {
  counted : l.columns ≡ len (ewise_add (row_of (ewise_add (content (all_counts (values l.deeper)))
      (content (all_counts (values l.before)))) l.row) (row_before l.run.counts l.row l.from));
  few : l.columns ≤ l.found + l.from;
  narrow : l.from ≤ 2 ^ 60;
  outside : l.run.rows ≤ l.row → l.columns ≡ 0;
}

abbrev pub decreases-columns : goal.decreases-columns
decreases-columns l = 2 ^ 60 - l.from

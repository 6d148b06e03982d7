use Rattle.std.proofs.Common.{take}
use Rattle.hyper_matrix.specs.Counts.{ewise_add}
use Rattle.layer_compaction.specs.Shared.{content, values, all_counts}
use Rattle.layer_cascade.specs.Columns.{HasColumns}
use Rattle.layer_cascade.proofs.row_entries.columns_with_layer.Given as goal

abbrev pub invariant-runs : goal.invariant-runs
invariant-runs l = HasColumns (ewise_add (content (all_counts (values l.deeper)))
    (content (take l.i (all_counts (values l.runs))))) l.layer.rows l.row l.columns

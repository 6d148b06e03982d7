use Rattle.std.proofs.Common.{◌≡◌, take}
use Rattle.std.specs.FinMap.{len}
use Rattle.hyper_matrix.specs.Counts.{ewise_add}
use Rattle.layer_compaction.specs.Shared.{content, values, all_counts}
use Rattle.layer_cascade.proofs.below.entries_over.Given as goal

abbrev pub invariant-runs : goal.invariant-runs
invariant-runs l = l.entries ≡ len
    (ewise_add l.below.counts (content (take l.i (all_counts (values l.runs)))))

use Rattle.std.proofs.Common.{◌≡◌, take}
use Rattle.std.specs.FinMap.{len}
use Rattle.layer_compaction.specs.Shared.{content, values, all_counts}
use Rattle.layer_compaction.proofs.runs.entries_in.Given as goal

abbrev pub invariant-runs : goal.invariant-runs
invariant-runs l = l.entries ≡ len (content (take l.i (all_counts (values l.runs))))

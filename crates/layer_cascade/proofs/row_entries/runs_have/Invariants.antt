use Rattle.std.proofs.Common.{◌≡◌, is_some, take}
use Rattle.std.specs.FinMap.{get}
use Rattle.layer_compaction.specs.Shared.{content, values, all_counts}
use Rattle.layer_cascade.proofs.row_entries.runs_have.Given as goal

abbrev pub invariant-runs : goal.invariant-runs
invariant-runs l = l.have ≡ is_some (get (content (take l.run-index (all_counts (values l.runs)))) (l.row, l.col))

use Rattle.std.proofs.Common.{◌≡◌, ◌++◌, take}
use Rattle.layer_compaction.specs.Shared.{values}
use Rattle.layer_compaction.proofs.runs.push_runs.Given as goal

abbrev pub invariant-runs : goal.invariant-runs
invariant-runs l = values l.out.items ≡ values l.fn.out.items ++ values (take l.run-index l.runs)

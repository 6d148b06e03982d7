use Rattle.std.proofs.Common.{◌≡◌, map, take}
use Rattle.hyper_matrix.specs.Cells.{entry_of}
use Rattle.layer_compaction.specs.Shared.{content, values, all_counts}
use Rattle.layer_compaction.specs.Runs.{without}
use Rattle.layer_compaction.proofs.runs.new_in_list.Given as goal

abbrev pub invariant-runs : goal.invariant-runs
invariant-runs l =
    let done = content (take l.run-index (all_counts (values l.before))) in
    map entry_of l.cells.items ≡ without done (map entry_of l.fn.cells.items)

use Rattle.layer_compaction.proofs.DueLemmas.{part_adds_up}
use Rattle.layer_compaction.proofs.due.Inputs.of.Goals as goal

pub invariant_of-result : goal.invariant_of-result
invariant_of-result c = part_adds_up c.args.runs.now c.split_at.result.0.now c.split_at.result.1.now
    c.split_at-2.result.0.now c.split_at-2.result.1.now c.split_at.ensures.by_index.0 c.split_at-2.ensures.by_index.0
    c.args.rows c.args.cols c.requires.runs c.in_ok-runs.runs.items c.in_ok-runs.ensures

use Rattle.std.proofs.Common.{ap, ◌∙◌, arith}
use Rattle.std.specs.Arc.{arc_value}
use Rattle.layer_compaction.proofs.LayerLemmas.{pushed_layer}
use Rattle.layer_compaction.proofs.runs.push_runs.Goals as goal

pub runs-preserved : goal.runs-preserved
runs-preserved c = pushed_layer _ _ _ _ _ _ c.run-item.result (omega arith) c.runs.invariant
    c.in_ok-push.ensures.items (c.in_ok-copy.ensures ∙ ap arc_value c.run-item.is)

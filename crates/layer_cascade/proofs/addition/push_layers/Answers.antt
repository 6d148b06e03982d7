use Rattle.std.proofs.Common.{ap, ◌∙◌, arith}
use Rattle.std.specs.Arc.{arc_value}
use Rattle.layer_compaction.proofs.LayerLemmas.{pushed_layer}
use Rattle.layer_cascade.proofs.addition.push_layers.Goals as goal

pub layers-preserved : goal.layers-preserved
layers-preserved c = pushed_layer _ _ _ _ _ _ c.layer-item.result (omega arith) c.layers.invariant
    c.in_ok-push.ensures.items (c.in_ok-copy.ensures ∙ ap arc_value c.layer-item.is)

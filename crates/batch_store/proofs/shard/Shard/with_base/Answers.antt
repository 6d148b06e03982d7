use Rattle.std.proofs.Common.{◌∙◌, ap}
use Rattle.std.specs.Arc.{arc_value}
use Rattle.hyper_matrix.specs.Matrix.{Matrix}
use Rattle.layer_cascade.specs.Layering.{layers_on}
use Rattle.batch_store.proofs.ShardLaws.{shard_based}
use Rattle.batch_store.proofs.shard.Shard.with_base.Goals as goal

pub with_layers-requires : goal.with_layers-requires
with_layers-requires g c =
    let v = c.args.setup.now in
    shard_based v c.args.s c.in_ok-layers.layers (arc_value c.args.base) c.rows.ensures.kept c.requires.here
    c.requires.rows c.requires.cols c.requires.own c.requires.within
    (c.in_ok-layers.ensures
    ∙ (λ i. layers_on (c.rows.ensures.value i) (c.cols.ensures.value i) (c.cuts.ensures.value i)
    (arc_value c.in_ok-below.below).counts)
    ∙ ap (λ (m : Matrix). layers_on v.rows v.cols v.cuts m.counts)
    (c.in_ok-below.ensures.ok ∙ c.in_ok-layer.ensures ∙ c.in_ok-copy.ensures ∙ c.deref.ensures))

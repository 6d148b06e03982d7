use Rattle.std.proofs.Common.{◌∙◌, ap, slice_get}
use Rattle.batch_store.specs.Shards.{Holding}
use Rattle.batch_store.proofs.ShardFoldLaws.{batch_behind}
use Rattle.batch_store.proofs.shard.Shard.at.Goals as goal

pub returns : goal.returns
returns c =
    batch_behind c.self.inside.sealed.entries c.self.inside.held.entries _ _ _ c.in_ok-batch-2.batch.now
    c.len-sealed.ensures.value c.if-i-sealed.false c.in_ok-batch-2.ensures.entry
    ∙ ap (λ (v : Holding). slice_get v.record_list c.args.i) c.self.view_is

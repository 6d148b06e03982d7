use Rattle.std.proofs.Common.{arith}
use Rattle.plain_engine.proofs.ViewLaws.{show_more}
use Rattle.plain_engine.proofs.export.views_of.Goals as goal

pub shards-preserved : goal.shards-preserved
shards-preserved c = show_more _ _ _ _ _ c.shard-item.result (omega arith) c.shards.invariant c.in_ok-push.ensures.items
    c.in_ok-view.ensures.layers c.shard-item.is

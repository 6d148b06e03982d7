use Rattle.plain_engine.proofs.StandLaws.{stands_new, makes_next}
use Rattle.plain_engine.proofs.engine.empty_shards.Goals as goal

pub make-preserved : goal.make-preserved
make-preserved g c =
    let v = c.args.setup.now in
    let x = c.in_ok-shard.shard in
    let e = c.in_ok-shard.ensures in
    makes_next v c.make.s c.make.shards.items c.push.new.self.items x c.make.invariant c.in_ok-push.ensures.items
    e.layers (stands_new v c.make.s x e.setup e.number e.record e.base c.number-held.ensures.kept)

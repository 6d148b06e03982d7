use Rattle.locked_engine.proofs.FoldedLaws.{settled_locked}
use Rattle.locked_engine.proofs.locked_shard.LockedShard.settle_fold.Goals as goal

-- the first batches of the record are in its base
pub invariant_of-self-2 : goal.invariant_of-self-2
invariant_of-self-2 g c =
    let told = c.in_ok-released.ensures.folded in
    settled_locked g.N.Named.setup g.N.Named.opened c.self.inside.known c.self.inside.rebased c.self.inside.held.parts
    c.self.inside.held.amount c.self.inside.shard c.self.invariant c.settle_fold.new.self told.0 told.1

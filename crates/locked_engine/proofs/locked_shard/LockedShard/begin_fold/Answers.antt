use Rattle.locked_engine.proofs.FoldedLaws.{stays_locked}
use Rattle.locked_engine.proofs.locked_shard.LockedShard.begin_fold.Goals as goal

pub invariant_of-self : goal.invariant_of-self
invariant_of-self g c =
    let told = c.begin_fold.ensures.stays in
    stays_locked g.N.Named.setup g.N.Named.opened c.self.inside.known c.self.inside.rebased c.self.inside.held.parts
    c.self.inside.held.amount c.self.inside.shard c.self.invariant c.begin_fold.new.self told.setup told.number told.sum
    told.base told.record_list

use Rattle.locked_engine.proofs.locked_shard.LockedShard.shard.Goals as goal

pub returns-clause-based : goal.returns-clause-based
returns-clause-based g c = (c.self.invariant.since, c.self.invariant.based)

use Rattle.locked_engine.proofs.FoldedLaws.{record_from, never_rebased}
use Rattle.locked_engine.proofs.locked_shard.LockedShard.into_parts.Goals as goal

pub returns-clause-from : goal.returns-clause-from
returns-clause-from g c =
    record_from g.N.Named.setup g.N.Named.opened c.self.inside.known c.self.inside.rebased c.self.inside.held.parts
    c.self.inside.held.amount c.self.inside.shard c.self.invariant

pub returns-clause-based : goal.returns-clause-based
returns-clause-based g c =
    never_rebased g.N.Named.setup g.N.Named.opened c.self.inside.known c.self.inside.rebased c.self.inside.held.parts
    c.self.inside.held.amount c.self.inside.shard c.self.invariant

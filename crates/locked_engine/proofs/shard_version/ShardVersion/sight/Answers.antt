use Rattle.locked_engine.proofs.ShownLaws.{shown_sight}
use Rattle.locked_engine.proofs.shard_version.ShardVersion.sight.Goals as goal

pub returns-clause-kept : goal.returns-clause-kept
returns-clause-kept g c =
    shown_sight g.N.Named.setup g.N.Named.opened c.self.inside.number _ c.self.inside.sight c.self.view_is
    c.self.invariant

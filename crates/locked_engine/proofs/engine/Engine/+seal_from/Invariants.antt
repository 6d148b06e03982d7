use Rattle.std.proofs.Common.{◌-◌}
use Rattle.locked_engine.proofs.engine.Engine.+seal_from.Given as goal

abbrev pub decreases-seal_from : goal.decreases-seal_from
decreases-seal_from g l = g.N.Named.setup.shards - l.s

use Rattle.plain_engine.proofs.StandLaws.{MakesShards}
use Rattle.plain_engine.proofs.engine.empty_shards.Given as goal

abbrev pub invariant-make : goal.invariant-make
invariant-make g l = MakesShards l.setup l.s l.shards.items

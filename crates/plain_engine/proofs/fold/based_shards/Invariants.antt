use Rattle.plain_engine.proofs.FoldingLaws.{MakesBased}
use Rattle.plain_engine.proofs.fold.based_shards.Given as goal

abbrev pub invariant-make : goal.invariant-make
invariant-make g l = MakesBased l.setup l.base.whole.counts l.s l.shards.items

use Rattle.batch_store.proofs.GrowthLaws.{grown_same, grown_twice}
use Rattle.batch_store.proofs.growth_laws.lists_grow_to_the_last.Goals as goal

pub returns-clause-same : goal.returns-clause-same
returns-clause-same c = grown_same

pub returns-clause-twice : goal.returns-clause-twice
returns-clause-twice c = grown_twice

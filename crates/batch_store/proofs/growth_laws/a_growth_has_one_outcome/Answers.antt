use Rattle.batch_store.proofs.GrowthLaws.{no_growth_fault, one_growth_fault}
use Rattle.batch_store.proofs.growth_laws.a_growth_has_one_outcome.Goals as goal

pub returns-clause-one : goal.returns-clause-one
returns-clause-one c = one_growth_fault

pub returns-clause-no_fault : goal.returns-clause-no_fault
returns-clause-no_fault c = no_growth_fault

use Rattle.batch_store.proofs.GrowthLaws.{verdict_grows, fresh_grows, accepted_under}
use Rattle.batch_store.proofs.growth_laws.larger_setups_answer_the_same.Goals as goal

pub returns-clause-verdict : goal.returns-clause-verdict
returns-clause-verdict c = verdict_grows

pub returns-clause-fresh : goal.returns-clause-fresh
returns-clause-fresh c = fresh_grows

pub returns-clause-accepted : goal.returns-clause-accepted
returns-clause-accepted c = accepted_under

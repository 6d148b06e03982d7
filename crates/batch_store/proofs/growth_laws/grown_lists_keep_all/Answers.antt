use Rattle.batch_store.proofs.GrowthLaws.{entries-grown, total-grown, counts-grown}
use Rattle.batch_store.proofs.growth_laws.grown_lists_keep_all.Goals as goal

pub returns-clause-entries : goal.returns-clause-entries
returns-clause-entries c = entries-grown

pub returns-clause-total : goal.returns-clause-total
returns-clause-total c = total-grown

pub returns-clause-counts : goal.returns-clause-counts
returns-clause-counts c = counts-grown

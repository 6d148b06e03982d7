use Rattle.cell_queries.proofs.GroupLaws.{groups_rise}
use Rattle.cell_queries.proofs.laws.groups_stand_once.Goals as goal

pub returns : goal.returns
returns c = groups_rise

use Rattle.cell_queries.proofs.GroupLaws.{groups_right}
use Rattle.cell_queries.proofs.laws.groups_have_their_cells.Goals as goal

pub returns : goal.returns
returns c = groups_right

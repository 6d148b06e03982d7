use Rattle.cell_queries.proofs.OneTop.{one_top}
use Rattle.cell_queries.proofs.laws.tops_are_one.Goals as goal

pub returns : goal.returns
returns c = one_top

use Rattle.cell_queries.proofs.TopLaws.{none_left_out}
use Rattle.cell_queries.proofs.laws.tops_leave_nothing_out.Goals as goal

pub returns : goal.returns
returns c = none_left_out

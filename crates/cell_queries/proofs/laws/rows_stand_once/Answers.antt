use Rattle.cell_queries.proofs.RowLaws.{rows_rise}
use Rattle.cell_queries.proofs.laws.rows_stand_once.Goals as goal

pub returns : goal.returns
returns c = rows_rise

use Rattle.cell_queries.proofs.RowLaws.{rows_told}
use Rattle.cell_queries.proofs.laws.every_row_is_told.Goals as goal

pub returns : goal.returns
returns c = rows_told

use Rattle.cell_queries.proofs.ApartLaws.{rows_apart}
use Rattle.cell_queries.proofs.laws.rows_apart_join.Goals as goal

pub returns : goal.returns
returns c = rows_apart

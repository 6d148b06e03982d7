use Rattle.cell_queries.proofs.TopLaws.{rows_alone}
use Rattle.cell_queries.proofs.laws.tops_have_rows_alone.Goals as goal

pub returns : goal.returns
returns c = rows_alone

use Rattle.cell_queries.proofs.RowLaws.{rows_right}
use Rattle.cell_queries.proofs.laws.rows_tell_entries_and_totals.Goals as goal

pub returns : goal.returns
returns c = rows_right

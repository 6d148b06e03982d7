use Rattle.hyper_matrix.proofs.RowOfLaws.{get-row_of_here}
use Rattle.hyper_matrix.proofs.row_laws.rows_keep_their_entries.Goals as goal

pub returns : goal.returns
returns c = get-row_of_here

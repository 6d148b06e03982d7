use Rattle.hyper_matrix.proofs.RowOfLaws.{get-row_of_other}
use Rattle.hyper_matrix.proofs.row_laws.rows_have_no_others.Goals as goal

pub returns : goal.returns
returns c = get-row_of_other

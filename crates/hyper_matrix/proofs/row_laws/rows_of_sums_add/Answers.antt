use Rattle.hyper_matrix.proofs.RowOfLaws.{row_of-ewise_add}
use Rattle.hyper_matrix.proofs.row_laws.rows_of_sums_add.Goals as goal

pub returns : goal.returns
returns c = row_of-ewise_add

use Rattle.hyper_matrix.proofs.RowOfLaws.{total-row_of-sum}
use Rattle.hyper_matrix.proofs.row_laws.row_totals_add.Goals as goal

pub returns : goal.returns
returns c = total-row_of-sum

use Rattle.hyper_matrix.proofs.CountLaws.{get-ewise_add}
use Rattle.hyper_matrix.proofs.laws.sums_at_places.Goals as goal

pub returns : goal.returns
returns c = get-ewise_add

use Rattle.hyper_matrix.proofs.CountLaws.{ewise_add-empty}
use Rattle.hyper_matrix.proofs.laws.empty_is_identity.Goals as goal

pub returns : goal.returns
returns c = ewise_add-empty

use Rattle.hyper_matrix.proofs.BuiltOfLaws.{total-built_of}
use Rattle.hyper_matrix.proofs.laws.built_total.Goals as goal

pub returns : goal.returns
returns c = total-built_of

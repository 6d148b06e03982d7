use Rattle.hyper_matrix.proofs.BuiltOfLaws.{built_joined}
use Rattle.hyper_matrix.proofs.laws.built_lists_add.Goals as goal

pub returns : goal.returns
returns c = built_joined

use Rattle.hyper_matrix.proofs.BuiltOfLaws.{built_names}
use Rattle.hyper_matrix.proofs.laws.built_names_places.Goals as goal

pub returns : goal.returns
returns c = built_names

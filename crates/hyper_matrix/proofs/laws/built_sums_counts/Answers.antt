use Rattle.hyper_matrix.proofs.BuiltOfLaws.{built_counts}
use Rattle.hyper_matrix.proofs.laws.built_sums_counts.Goals as goal

pub returns : goal.returns
returns c = built_counts

use Rattle.matrix_difference.proofs.PlaceLaws.{falls_rightly}
use Rattle.matrix_difference.proofs.laws.where_counts_fall_nothing_adds_back.Goals as goal

pub returns : goal.returns
returns c = falls_rightly

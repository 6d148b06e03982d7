use Rattle.matrix_difference.proofs.PlaceLaws.{without_zeros, is_left, has_fewer}
use Rattle.matrix_difference.proofs.laws.difference_is_least.Goals as goal

pub returns : goal.returns
returns c = λ a b y is. (without_zeros b y, is_left a b y is, has_fewer b y)

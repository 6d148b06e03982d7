use Rattle.matrix_difference.proofs.PlaceLaws.{adds_back, total_rises, at_most_one}
use Rattle.matrix_difference.proofs.laws.difference_adds_back.Goals as goal

pub returns-clause-sum : goal.returns-clause-sum
returns-clause-sum c = adds_back

pub returns-clause-total : goal.returns-clause-total
returns-clause-total c = total_rises

pub returns-clause-one : goal.returns-clause-one
returns-clause-one c = at_most_one

use Rattle.snap_roll.proofs.RollLemmas.{taken_again}
use Rattle.snap_roll.proofs.roll_laws.a_roll_may_be_repeated.Goals as goal

pub returns : goal.returns
returns c = taken_again

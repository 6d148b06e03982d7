use Rattle.snap_roll.proofs.RollLemmas.{taken_sums}
use Rattle.snap_roll.proofs.roll_laws.the_sum_is_what_the_entries_say.Goals as goal

pub returns : goal.returns
returns c = taken_sums

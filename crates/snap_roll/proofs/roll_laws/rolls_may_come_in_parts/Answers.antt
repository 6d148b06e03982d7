use Rattle.snap_roll.proofs.RollLemmas.{taken_both, taken_parts}
use Rattle.snap_roll.proofs.roll_laws.rolls_may_come_in_parts.Goals as goal

pub returns-clause-both : goal.returns-clause-both
returns-clause-both c = taken_both

pub returns-clause-parts : goal.returns-clause-parts
returns-clause-parts c = taken_parts

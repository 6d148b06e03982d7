use Rattle.plain_engine.proofs.RoundLaws.{folding_sums, rounds_run, rounds_together}
use Rattle.plain_engine.proofs.world.rounds_agree.Goals as goal

pub returns-clause-sums : goal.returns-clause-sums
returns-clause-sums c = folding_sums

pub returns-clause-lawful : goal.returns-clause-lawful
returns-clause-lawful c = rounds_run

pub returns-clause-together : goal.returns-clause-together
returns-clause-together c = rounds_together

use Rattle.locked_engine.proofs.CountedLaws.{counts_once, one_answer}
use Rattle.locked_engine.proofs.counted.answers_count_once.Goals as goal

pub returns-clause-counted : goal.returns-clause-counted
returns-clause-counted c = counts_once

pub returns-clause-same : goal.returns-clause-same
returns-clause-same c = one_answer

use Rattle.log_lives.proofs.LifeLaws.{run_keeps, started_prefix, answer_known, outcome_taken, outcome_prefix, outcome_known}
use Rattle.log_lives.proofs.lives.stays_one_list.Goals as goal

pub returns-clause-starts : goal.returns-clause-starts
returns-clause-starts c limit most es w u list r b = started_prefix w u list (run_keeps limit most es w r) b

pub returns-clause-distinct : goal.returns-clause-distinct
returns-clause-distinct c limit most es w r = (run_keeps limit most es w r).distinct

pub returns-clause-acknowledged : goal.returns-clause-acknowledged
returns-clause-acknowledged c limit most es w a r among =
    answer_known limit most w a (run_keeps limit most es w r) among

pub returns-clause-taken : goal.returns-clause-taken
returns-clause-taken c limit most es w s l r o = outcome_taken w s l (run_keeps limit most es w r) o

pub returns-clause-left : goal.returns-clause-left
returns-clause-left c limit most es w s l r o = outcome_prefix w s l (run_keeps limit most es w r) o

pub returns-clause-left_acknowledged : goal.returns-clause-left_acknowledged
returns-clause-left_acknowledged c limit most es w s l a r o among =
    outcome_known limit most w s l a (run_keeps limit most es w r) o among

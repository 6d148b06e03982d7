use Rattle.log_join.proofs.OutcomeLaws.{one_fault, one_list, never_faulty}
use Rattle.log_join.proofs.laws.a_join_has_one_outcome.Goals as goal

pub returns-clause-one : goal.returns-clause-one
returns-clause-one c = one_fault

pub returns-clause-list : goal.returns-clause-list
returns-clause-list c = one_list

pub returns-clause-no_fault : goal.returns-clause-no_fault
returns-clause-no_fault c = never_faulty

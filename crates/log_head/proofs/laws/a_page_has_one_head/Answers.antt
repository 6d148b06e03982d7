use Rattle.log_head.proofs.HeadLaws.{one_head, no_fault}
use Rattle.log_head.proofs.laws.a_page_has_one_head.Goals as goal

pub returns-clause-one : goal.returns-clause-one
returns-clause-one c = one_head

pub returns-clause-no_fault : goal.returns-clause-no_fault
returns-clause-no_fault c = no_fault

use Rattle.log_head.proofs.HeadLaws.{one_fault}
use Rattle.log_head.proofs.laws.a_page_has_one_fault.Goals as goal

pub returns : goal.returns
returns c = one_fault

use Rattle.log_read.proofs.OneLog.{one_fault}
use Rattle.log_read.proofs.laws.bytes_have_one_fault.Goals as goal

pub returns : goal.returns
returns c = one_fault

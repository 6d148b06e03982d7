use Rattle.log_read.proofs.OneLog.{one_log, no_fault}
use Rattle.log_read.proofs.laws.bytes_are_one_log.Goals as goal

pub returns-clause-one : goal.returns-clause-one
returns-clause-one c = one_log

pub returns-clause-no_fault : goal.returns-clause-no_fault
returns-clause-no_fault c = no_fault

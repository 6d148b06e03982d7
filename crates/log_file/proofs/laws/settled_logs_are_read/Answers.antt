use Rattle.log_file.proofs.LogLemmas.{log_is_read}
use Rattle.log_file.proofs.laws.settled_logs_are_read.Goals as goal

pub returns : goal.returns
returns c log file is holds = log_is_read log file is holds

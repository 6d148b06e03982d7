use Rattle.log_file.proofs.LogLemmas.{held_is_read}
use Rattle.log_file.proofs.laws.torn_logs_are_read.Goals as goal

pub returns : goal.returns
returns c log block file is is_block held = held_is_read log block file is is_block held

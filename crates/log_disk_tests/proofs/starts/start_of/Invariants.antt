use Rattle.std.proofs.Common.{[]}
use Rattle.log_disk_tests.proofs.starts.start_of.Given as goal

abbrev pub ghost-start_log : goal.ghost-start_log
ghost-start_log g a = (record { head = []; first = 0; blocks = [] }, [])

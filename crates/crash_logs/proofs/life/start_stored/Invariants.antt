use Rattle.std.proofs.Common.{[]}
use Rattle.open_log.specs.Rotations.{begun}
use Rattle.crash_logs.proofs.life.start_stored.Given as goal

-- the folder doesn't tell what it holds, so nothing is asked of these
abbrev pub ghost-start_log : goal.ghost-start_log
ghost-start_log g a = (begun [] 0, [])

use Rattle.std.proofs.Common.{[]}
use Rattle.open_log.specs.Rotations.{begun}
use Rattle.socket_server.proofs.file_log.start_untold.Given as goal

-- the folder doesn't tell what it holds, so nothing is asked of these
abbrev pub ghost-start_in : goal.ghost-start_in
ghost-start_in g a = (begun [] 0, [])

use Rattle.socket_server.specs.Starts.{IsUnderName}
use Rattle.socket_server.proofs.AnswerLaws.{start_of}
use Rattle.socket_server.proofs.file_log.start_untold.Goals as goal

pub returns-clause-answer : goal.returns-clause-answer
returns-clause-answer g c =
    let folder = c.args.folder.now in
    let f = g.F.LogFolder in
    start_of c.args.setup.now c.args.owner.now c.args.known
    (IsUnderName g.F.Disk.LogDisk (f.tells folder) (f.stored folder) (f.named folder)) c.start_in.result
    c.start_in.ensures.list

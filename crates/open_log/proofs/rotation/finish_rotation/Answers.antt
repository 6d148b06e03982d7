use Rattle.open_log.proofs.Fresh.{settled_durable}
use Rattle.open_log.proofs.rotation.finish_rotation.Goals as goal

pub give_name-requires-clause-durable : goal.give_name-requires-clause-durable
give_name-requires-clause-durable g c = λ t.
    let disk = g.F.Disk.LogDisk in
    let new = c.args.new in
    settled_durable disk.tells disk.written disk.may_leave new.file.disk new.writer g.log (c.requires.1.1.1.1 t)

use Rattle.log_folder.proofs.Heads.{head_durable}
use Rattle.log_folder.proofs.naming.begin_named.Goals as goal

pub give_name-requires-clause-made : goal.give_name-requires-clause-made
give_name-requires-clause-made g c = λ t. c.in_ok-file.ensures.made (c.make_with_head.ensures.tells.1 t)

pub give_name-requires-clause-durable : goal.give_name-requires-clause-durable
give_name-requires-clause-durable g c = λ t.
    let disk = g.F.Disk.LogDisk in
    head_durable disk.tells disk.written disk.may_leave c.in_ok-file.file.disk c.args.head.now
    (c.in_ok-file.ensures.head (c.make_with_head.ensures.tells.1 t))

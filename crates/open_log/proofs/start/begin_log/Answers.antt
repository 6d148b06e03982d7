use Rattle.std.proofs.Common.{◌≡◌, ◌<◌, ◌^◌, length, rules}
use Rattle.open_log.proofs.Fresh.{begun_settled}
use Rattle.open_log.proofs.start.begin_log.Goals as goal

pub returns-clause-settled : goal.returns-clause-settled
returns-clause-settled g c = λ t.
    let long : length c.args.head.now ≡ 4096 = search rules in
    let small : c.args.first < 2 ^ 64 = search rules in
    let disk = g.F.Disk.LogDisk in
    begun_settled disk.tells disk.written disk.may_leave c.in_ok-file.file.disk c.empty_writer.result
    c.args.head.now c.args.first long small
    (c.in_ok-file.ensures.head t) c.empty_writer.ensures.first c.empty_writer.ensures.next c.empty_writer.ensures.page

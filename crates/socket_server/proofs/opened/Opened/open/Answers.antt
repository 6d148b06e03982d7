use Rattle.std.proofs.Common.{length, ap, ◌∙◌}
use Rattle.batch_store.specs.Accepted.{entries_in, total_in}
use Rattle.socket_server.proofs.SeatLaws.{opened_count}
use Rattle.socket_server.proofs.opened.Opened.open.Goals as goal

-- the engine was just opened, with so many seats
pub returns-in_default-log-clause-seats : goal.returns-in_default-log-clause-seats
returns-in_default-log-clause-seats g c =
    let a = c.args.start.plain.book.state in
    ap length c.in-Ok.ensures.seats ∙ opened_count (entries_in a) a.list (total_in a) g.N.Named.seats

pub returns-in-Ok-open-clause-seats : goal.returns-in-Ok-open-clause-seats
returns-in-Ok-open-clause-seats g c =
    let a = c.args.start.plain.book.state in
    ap length c.in-Ok.ensures.seats ∙ opened_count (entries_in a) a.list (total_in a) g.N.Named.seats

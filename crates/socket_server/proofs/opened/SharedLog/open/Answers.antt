use Rattle.std.proofs.Common.{sym, subst, ◌∙◌}
use Rattle.batch_store.specs.Accepted.{entries_in}
use Rattle.socket_server.proofs.SeatLaws.{first_seen}
use Rattle.socket_server.proofs.opened.SharedLog.open.Goals as goal

pub all_of-known-requires : goal.all_of-known-requires
all_of-known-requires g c =
    let seats = c.requires.seats in
    let seen = first_seen (entries_in g.N.Named.opened) g.N.Named.opened.list seats.0 seats.1 c.args.seats.now c.in-Some.seat.now seats.2
    c.in-Some.ensures.value in
    record { synced = subst g.L.Log.was_synced (sym (c.version-version.ensures ∙ seen)) c.requires.synced }

pub open-requires-clause-durable : goal.open-requires-clause-durable
open-requires-clause-durable g c =
    let seats = c.requires.seats in
    let seen = first_seen (entries_in g.N.Named.opened) g.N.Named.opened.list seats.0 seats.1 c.args.seats.now c.in-Some.seat.now seats.2
    c.in-Some.ensures.value in
    c.requires.durable ∙ sym (c.again.ensures ∙ (c.all_of-known.ensures ∙ (c.version-version.ensures ∙ seen)))

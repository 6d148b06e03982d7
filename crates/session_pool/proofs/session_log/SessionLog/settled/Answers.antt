use Rattle.std.proofs.Common.{◌<◌, [], List, length, refl, rules, subst}
use Rattle.std.proofs.lemmas.List.{append-nil}
use mathlib.Core.List.{IsPrefix}
use Rattle.batch_store.specs.declared.verdict.Entry.{Entry}
use Rattle.session_pool.proofs.PlaceLaws.{stands_too}
use Rattle.session_pool.proofs.session_log.SessionLog.settled.Goals as goal

-- what is known as durable and what the seat was shown begin one list
pub returns : goal.returns
returns g c =
    let known = c.args.self.now in
    let one = c.joins-2.ensures in
    let less : c.args.place < length known = search rules in
    let first : IsPrefix known one.0 = subst (λ (l : List Entry). IsPrefix l one.0) c.self.view_is one.2 in
    let second : IsPrefix c.args.seat.now.seen one.0 = subst (λ (l : List Entry). IsPrefix l one.0) c.version.ensures
    one.3 in (
      refl,
      ([], append-nil known),
      (
        stands_too known c.args.seat.now.seen one.0 c.args.place less first second,
        subst g.L.Log.was_synced c.self.view_is c.status-status.ensures.synced,
      ),
    )

use Rattle.std.proofs.Common.{◌≡◌, List, length, sym, ap, subst, arith}
use Rattle.std.specs.Prelude.{Bool, is_some}
use Rattle.batch_store.specs.Accepted.{entries_in}
use Rattle.plain_engine.specs.declared.status.Status.{Status}
use Rattle.locked_engine.specs.Told.{AreShown}
use Rattle.locked_engine.specs.Views.{SeatView}
use Rattle.session_pool.specs.Saves.{of_origin}
use Rattle.socket_server.specs.Ends.{HasEnded, stopped}
use Rattle.socket_server.proofs.EndLaws.{stored_by, whole_unless}
use Rattle.socket_server.proofs.SeatLaws.{written_back}
use Rattle.socket_server.proofs.serving.close_opened.Goals as goal

-- there is no log, so what was accepted is stored
pub returns-in_default-clause-ended : goal.returns-in_default-clause-ended
returns-in_default-clause-ended g c =
    let h = c.in_ok-status.ensures.ended in
    subst (λ (b : Bool). HasEnded (of_origin g.R.Disk.saves c.args.saver.now.origin) c.args.rt.now g.L.Log.was_synced g.L.Log.has_failed g.L.Log.was_full c.args.saver.now.path g.N.Named.setup b
    g.N.Named.opened (stopped c.in_ok-status.status 0))
    (sym (ap is_some c.in_default.is)) (h.0, h.2, h.3, ap (λ (n : Status). stopped n 0) h.4)

-- what is durable in it was learnt, and begins what the first seat was shown
pub returns-clause-ended : goal.returns-clause-ended
returns-clause-ended g c =
    let told = c.if-not-learn.ensures in
    let old = c.args.opened.seats in
    let has : old.len ≡ length old.items = omega (arith, c.as_mut_slice.ensures.len, ap length c.as_mut_slice.ensures.value) in
    let long : length c.learn.new.seats ≡ length old.items
    = omega (arith, c.learn.ensures.count, ap length c.as_mut_slice.ensures.value) in
    let seats = written_back old.len c.learn.new.seats old.items has long in
    let h = c.in_ok-accepted.ensures.ended in
    let shown = subst (λ (l : List SeatView). AreShown l (entries_in h.0)) seats h.1.shown in
    subst (λ (b : Bool). HasEnded (of_origin g.R.Disk.saves c.args.saver.now.origin) c.args.rt.now g.L.Log.was_synced g.L.Log.has_failed g.L.Log.was_full c.args.saver.now.path g.N.Named.setup b
    g.N.Named.opened c.stopped_with.result)
    (sym (ap is_some c.in-Some.is)) (
      h.0,
      h.2,
      h.3,
      stored_by g.L.Log.was_synced g.L.Log.has_failed g.L.Log.was_full c.args.saver.now.path g.N.Named.opened h.0 c.learn.new.self c.stopped_with.result
          c.in_ok-accepted.accepted c.status-durable.result (told.synced, told.opened, told.within (entries_in h.0) shown)
          (whole_unless g.L.Log.has_failed g.L.Log.was_full h.0 c.learn.new.self c.write_rest-end.result
          c.in_ok-accepted.accepted c.status-durable.result (told.within (entries_in h.0) shown) h.4
          c.status-durable.ensures c.if-not-is_whole.ensures c.write_rest-end.ensures.failed
          c.write_rest-end.ensures.full) h.4
          c.status-durable.ensures c.stopped_with.ensures.saved c.stopped_with.ensures.logged,
    )

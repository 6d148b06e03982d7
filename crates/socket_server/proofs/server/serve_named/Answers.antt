use Rattle.std.proofs.Common.{sym, subst}
use Rattle.std.specs.Prelude.{Bool, IfOk, is_some}
use Rattle.batch_store.specs.Setups.{Setting}
use Rattle.session_pool.specs.Saves.{of_origin}
use Rattle.socket_server.specs.Ends.{HasEnded}
use Rattle.socket_server.proofs.server.serve_named.Goals as goal

-- it ends as the server of the names' setup does, with a log where the start has made one
pub returns-clause-ended : goal.returns-clause-ended
returns-clause-ended g c =
    let saves = of_origin g.R.Disk.saves c.args.plan.saver.origin in
    let synced = g.L.Log.was_synced in
    let failed = g.L.Log.has_failed in
    let full = g.L.Log.was_full in
    let path = c.args.plan.saver.path in
    let opened = g.N.Named.opened in
    subst (λ (b : Bool). IfOk c.serve_bound.result (HasEnded saves c.args.rt.now synced failed full path c.args.names.setup b opened))
    c.in-Ok.ensures.has_log
    (subst (λ (v : Setting). IfOk c.serve_bound.result
    (HasEnded saves c.args.rt.now synced failed full path v (is_some c.in-Ok.opened.log) opened)) (sym c.requires.named.setup_is)
    c.serve_bound.ensures.ended)

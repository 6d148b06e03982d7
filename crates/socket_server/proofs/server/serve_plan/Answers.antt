use Rattle.std.proofs.Common.{◌≡◌, ℕ, subst, arith}
use Rattle.std.specs.Prelude.{is_some}
use Rattle.batch_store.specs.Setups.{Setting}
use Rattle.session_pool.specs.Saves.{of_origin}
use Rattle.socket_server.specs.Ends.{HasEnded, stopped}
use Rattle.socket_server.proofs.server.serve_plan.Goals as goal

-- some batches are missing
pub returns-then-missing-gt0-clause-short : goal.returns-then-missing-gt0-clause-short
returns-then-missing-gt0-clause-short g c = (
  c.in_ok-status.field-0.status,
  omega (arith, c.if-missing-gt0.true),
  subst (λ (v : Setting). HasEnded (of_origin g.R.Disk.saves c.args.plan.saver.origin) c.args.rt.now g.L.Log.was_synced g.L.Log.has_failed g.L.Log.was_full c.args.plan.saver.path v
      (is_some c.args.start.log) c.args.start.plain.book.state c.in_ok-status.field-0) c.in-Ok.ensures.setup
      c.in_ok-status.ensures.ended,
)

-- none is
pub returns-clause-ended : goal.returns-clause-ended
returns-clause-ended g c =
    let end = c.in_ok-status.field-0 in
    let none : end.missing ≡ 0 = omega (arith, c.if-missing-gt0.false) in
    subst (λ (n : ℕ). HasEnded (of_origin g.R.Disk.saves c.args.plan.saver.origin) c.args.rt.now g.L.Log.was_synced g.L.Log.has_failed g.L.Log.was_full c.args.plan.saver.path
    c.args.start.plain.setup (is_some c.args.start.log) c.args.start.plain.book.state (stopped end.status n)) none
    (subst (λ (v : Setting). HasEnded (of_origin g.R.Disk.saves c.args.plan.saver.origin) c.args.rt.now g.L.Log.was_synced g.L.Log.has_failed g.L.Log.was_full c.args.plan.saver.path v
    (is_some c.args.start.log) c.args.start.plain.book.state end) c.in-Ok.ensures.setup c.in_ok-status.ensures.ended)

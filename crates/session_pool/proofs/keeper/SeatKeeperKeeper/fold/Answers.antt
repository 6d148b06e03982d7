use Rattle.std.proofs.Common.{◌≡◌, ◌≤◌, length, refl, ◌∙◌, ap, arith, rules}
use Rattle.plain_engine.specs.declared.status.Status.{Status}
use Rattle.batch_store.specs.Accepted.{Accepted}
use Rattle.session_pool.specs.Saves.{IsSaved, of_origin}
use Rattle.session_pool.specs.Seats.{sight}
use Rattle.session_pool.proofs.GivenLaws.{gives_folded}
use Rattle.session_pool.proofs.keeper.SeatKeeperKeeper.fold.Goals as goal

pub returns-in-Some-clause-gives : goal.returns-in-Some-clause-gives
returns-in-Some-clause-gives g c =
    let s = c.args.self.now in
    let e = c.in-Some.ensures in
    let shown : c.status-shown.result.batches ≡ length s.seat.now.seen =
    ap (λ (a : Status). a.batches) c.status-shown.ensures.status ∙ ap length c.version.ensures in
    let enough : c.status-shown.result.batches ≤ c.in-Some.folded = search rules in (
      refl,
      gives_folded g.N.Named.setup g.N.Named.opened
          (λ (a : Accepted). IsSaved (of_origin g.R.Disk.saves s.saver.now.origin) s.rt.now s.saver.now.path g.N.Named.setup a) g.L.Log.was_synced
          g.L.Log.has_failed g.L.Log.was_full (sight s.seat.now s.log) (sight c.folded.new.seat c.fold_now-done.new.log)
          c.in-Some.folded c.fold_now-done.ensures.grows e.number e.later e.known e.first e.folded (omega (arith, shown, enough)),
    )

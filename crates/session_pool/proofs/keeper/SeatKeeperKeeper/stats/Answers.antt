use Rattle.std.proofs.Common.{refl, ◌∙◌, ap}
use Rattle.batch_store.specs.Accepted.{Accepted}
use Rattle.locked_engine.specs.Versions.{version_status}
use Rattle.session_pool.specs.Saves.{IsSaved, of_origin}
use Rattle.session_pool.specs.Seats.{sight}
use Rattle.session_pool.proofs.GivenLaws.{gives_told}
use Rattle.session_pool.proofs.keeper.SeatKeeperKeeper.stats.Goals as goal

pub returns-clause-gives : goal.returns-clause-gives
returns-clause-gives g c =
    let s = c.args.self.now in
    let e = c.in-Some.ensures in (
      refl,
      gives_told g.N.Named.setup g.N.Named.opened
          (λ (a : Accepted). IsSaved (of_origin g.R.Disk.saves s.saver.now.origin) s.rt.now s.saver.now.path g.N.Named.setup a) g.L.Log.was_synced
          g.L.Log.has_failed g.L.Log.was_full (sight s.seat.now s.log) (sight c.folded.new.seat s.log) c.setup.result
          c.status-status.result c.in-Some.folded c.in_ok-figures.figures.items refl e.number e.later e.known e.first
          c.setup.ensures (c.status-status.ensures.status ∙ ap (λ v. version_status v) c.version.ensures) e.folded,
    )

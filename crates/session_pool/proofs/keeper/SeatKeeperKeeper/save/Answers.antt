use Rattle.std.proofs.Common.{refl}
use Rattle.batch_store.specs.Accepted.{Accepted}
use Rattle.session_pool.specs.Saves.{IsSaved, of_origin}
use Rattle.session_pool.specs.Seats.{sight}
use Rattle.session_pool.proofs.GivenLaws.{gives_save}
use Rattle.session_pool.proofs.keeper.SeatKeeperKeeper.save.Goals as goal

pub returns-clause-gives : goal.returns-clause-gives
returns-clause-gives g c =
    let s = c.args.self.now in
    let e = c.save.ensures in (
      refl,
      gives_save g.N.Named.setup g.N.Named.opened
          (λ (a : Accepted). IsSaved (of_origin g.R.Disk.saves s.saver.now.origin) s.rt.now s.saver.now.path g.N.Named.setup a) g.L.Log.was_synced
          g.L.Log.has_failed g.L.Log.was_full (sight s.seat.now s.log) (sight c.save.new.seat s.log) c.save.result
          refl e.number e.later e.known e.first e.saved,
    )

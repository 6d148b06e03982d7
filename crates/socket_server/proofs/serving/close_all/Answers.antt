use Rattle.std.proofs.Common.{subst}
use Rattle.batch_store.specs.Setups.{Setting}
use Rattle.batch_store.specs.Books.{AreAccepted}
use Rattle.session_pool.specs.Saves.{IsSaved, of_origin}
use Rattle.socket_server.proofs.serving.close_all.Goals as goal

-- what the engine of one thread has accepted was saved, and the seats agree with it
pub returns-in-Ok-clause-ended : goal.returns-in-Ok-clause-ended
returns-in-Ok-clause-ended g c =
    let a = c.in-Ok.plain.book.state in
    let told = c.in-Ok.ensures in (
      a,
      record { shares = told.seats; shown = told.shown },
      record { entries = told.opened; past = told.past },
      (
        subst (λ (v : Setting). AreAccepted v a) told.setup told.whole.keeps.accepted,
        subst (λ (v : Setting). IsSaved (of_origin g.R.Disk.saves c.args.saver.now.origin) c.args.rt.now c.args.saver.now.path v a) told.setup
            c.in_ok-save_plain-in-Ok.ensures.saved,
      ),
      c.status.ensures,
    )

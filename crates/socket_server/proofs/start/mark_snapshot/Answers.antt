use Rattle.std.proofs.Common.{inr}
use Rattle.std.proofs.lemmas.Result.{on_ok_weaker}
use Rattle.batch_store.specs.Books.{accepted_in}
use Rattle.session_pool.proofs.HeldLaws.{saved_in}
use Rattle.socket_server.proofs.start.mark_snapshot.Goals as goal

-- it was saved as of the origin's book
pub returns-clause-held : goal.returns-clause-held
returns-clause-held g c =
    on_ok_weaker c.save_marked.result
    (λ saved. inr (saved_in g.R.Disk.saves c.args.rt.now c.args.settings.now.snapshot c.args.origin
    c.args.plan.now.first (accepted_in c.args.joined.now.list) saved)) c.save_marked.ensures.saved

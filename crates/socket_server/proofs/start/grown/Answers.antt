use Rattle.batch_store.specs.Books.{accepted_in}
use Rattle.session_pool.proofs.HeldLaws.{saved_in}
use Rattle.socket_server.proofs.start.grown.Goals as goal

-- it was saved under the server's setup before
pub renew-requires-clause-held : goal.renew-requires-clause-held
renew-requires-clause-held g c =
    saved_in g.R.Disk.saves c.args.rt.now c.args.settings.now.snapshot c.args.origin c.args.plan.now.last
    (accepted_in c.in-Ok.list) c.in_ok-save_marked.ensures.saved

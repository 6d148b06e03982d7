use Rattle.batch_store.specs.Books.{accepted_in}
use Rattle.session_pool.specs.Saves.{of_book}
use Rattle.socket_server.proofs.RenewLaws.{held_under}
use Rattle.socket_server.proofs.start.renew.Goals as goal

-- the path is lent to whoever begins the log
pub renew-requires-clause-held : goal.renew-requires-clause-held
renew-requires-clause-held g c =
    held_under (of_book g.R.Disk.saves c.args.identity) c.args.rt.now c.args.settings.now.snapshot c.as_deref.result
    (λ y. y.now) c.args.setup.now (accepted_in c.args.joined.list) c.as_deref.ensures.cases c.requires.held

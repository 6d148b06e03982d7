use Rattle.std.proofs.Common.{inr}
use Rattle.batch_store.specs.Books.{accepted_in}
use Rattle.session_pool.proofs.HeldLaws.{held_in}
use Rattle.session_pool.proofs.rotation.rotate_last.Goals as goal

pub begin_log-requires-clause-held : goal.begin_log-requires-clause-held
begin_log-requires-clause-held g c =
    inr (held_in g.R.Disk.saves c.args.rt.now (λ p. p.now) c.args.names.snapshot c.args.names.origin
    c.args.setup.now (accepted_in c.args.list.now) c.requires.saved)

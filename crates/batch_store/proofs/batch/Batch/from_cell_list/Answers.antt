use Rattle.std.proofs.Common.{ap, Err}
use Rattle.batch_store.proofs.ListLaws.{one_fault, never_refused}
use Rattle.batch_store.proofs.batch.Batch.from_cell_list.Goals as goal

pub returns-in-Err-clause-exact : goal.returns-in-Err-clause-exact
returns-in-Err-clause-exact c fault other h =
    ap Err (one_fault c.args.setup.now c.args.cells.items c.in-Err.fault fault
    c.in-Err.ensures.err other h)

pub returns-in-Ok-new-clause-exact : goal.returns-in-Ok-new-clause-exact
returns-in-Ok-new-clause-exact c fault other h =
    absurd (never_refused c.args.setup.now c.args.cells.items fault c.in-Ok.ensures.fits other h)

pub returns-clause-exact : goal.returns-clause-exact
returns-clause-exact c fault other h =
    absurd (never_refused c.args.setup.now c.args.cells.items fault c.in-Ok.ensures.fits other h)

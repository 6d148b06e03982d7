use Rattle.batch_store.specs.Batches.{values}
use Rattle.batch_store.specs.Books.{HaveDims}
use Rattle.store_tests.proofs.engine.loads.list_of.Given as goal

abbrev pub invariant-batches : goal.invariant-batches
invariant-batches g l = HaveDims l.setup.rows l.setup.cols (values l.list.items)

use Rattle.std.proofs.Common.{◌≡◌, ◌++◌, take, drop}
use Rattle.batch_store.specs.Accepted.{accepted, entries_in}
use Rattle.batch_store.specs.Batches.{values, entries_of}
use Rattle.batch_store.specs.Books.{HaveDims}
use Rattle.plain_engine.specs.Loads.{first_refusal}
use Rattle.plain_engine.proofs.engine.PlainEngine.load_all.Given as goal

abbrev pub invariant-batches : goal.invariant-batches
invariant-batches l = record {
  setup : l.self.setup ≡ l.fn.self.setup;
  state : l.self.book.state ≡ accepted l.fn.self.book.state.base l.fn.self.book.state.folded
      (l.fn.self.book.state.list ++ values (take l.b-index l.batches));
  dims : HaveDims l.fn.self.setup.rows l.fn.self.setup.cols (values (drop l.b-index l.batches));
  rest : first_refusal l.fn.self.setup (entries_in l.fn.self.book.state) (entries_of (values l.batches)) ≡ first_refusal
      l.fn.self.setup (entries_in l.self.book.state) (entries_of (values (drop l.b-index l.batches)));
}

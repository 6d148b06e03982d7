use Rattle.std.proofs.Common.{◌≡◌}
use Rattle.store_tests.proofs.store.books.put_all.Given as goal

abbrev pub invariant-steps : goal.invariant-steps
invariant-steps g l = l.book.setup ≡ l.setup

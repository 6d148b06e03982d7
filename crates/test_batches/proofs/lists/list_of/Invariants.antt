use Rattle.std.proofs.Common.{◌≡◌}
use Rattle.test_batches.proofs.lists.list_of.Given as goal

abbrev pub invariant-rows : goal.invariant-rows
invariant-rows g l = l.book.setup ≡ l.setup

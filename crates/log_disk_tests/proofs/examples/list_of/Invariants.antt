use Rattle.std.proofs.Common.{◌≡◌}
use Rattle.log_disk_tests.proofs.examples.list_of.Given as goal

abbrev pub invariant-rows : goal.invariant-rows
invariant-rows g l = l.book.setup ≡ l.setup

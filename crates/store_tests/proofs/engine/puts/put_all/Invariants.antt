use Rattle.std.proofs.Common.{◌≡◌}
use Rattle.store_tests.proofs.engine.puts.put_all.Given as goal

abbrev pub invariant-steps : goal.invariant-steps
invariant-steps g l = l.engine.setup ≡ l.setup

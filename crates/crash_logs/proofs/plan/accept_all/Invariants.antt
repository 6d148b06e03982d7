use Rattle.std.proofs.Common.{◌≡◌}
use Rattle.crash_logs.proofs.plan.accept_all.Given as goal

abbrev pub invariant-places : goal.invariant-places
invariant-places l = l.book.setup ≡ l.setup

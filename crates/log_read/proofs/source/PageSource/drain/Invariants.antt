use Rattle.std.proofs.Common.{◌≡◌, ◌-◌, ◌≤◌, ◌++◌, ℕ, List}
use Rattle.log_read.specs.Given.{HasPassed, IsAt}
use Rattle.log_read.proofs.source.PageSource.drain.Given as goal

abbrev pub invariant-pieces : goal.invariant-pieces
invariant-pieces g l = record {
  limit : l.self.max_bytes ≡ l.fn.self.max_bytes;
  within : l.self.came ≤ l.self.max_bytes;
  failures : g.R.Source.failure_count l.r ≡ g.R.Source.failure_count l.fn.r;
  read : (s : g.row.R.Denot) (done : List ℕ) →
      IsAt {S = g.row.R.Denot} g.R.Source.read_gives g.R.Source.failure_count s l.fn.r l.fn.self done →
      HasPassed {S = g.row.R.Denot} g.R.Source.read_gives g.R.Source.failure_count s l.r l.self
      (done ++ l.fn.self.buffer);
}

abbrev pub decreases-pieces : goal.decreases-pieces
decreases-pieces g l = l.self.max_bytes - l.self.came

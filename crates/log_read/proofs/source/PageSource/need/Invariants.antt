use Rattle.std.proofs.Common.{◌≡◌, ◌+◌, ◌-◌, ◌≤◌, ℕ, List, length}
use Rattle.log_read.specs.Given.{IsAt}
use Rattle.log_read.proofs.source.PageSource.need.Given as goal

abbrev pub invariant-pieces : goal.invariant-pieces
invariant-pieces g l = record {
  limit : l.self.max_bytes ≡ l.fn.self.max_bytes;
  within : l.self.came ≤ l.self.max_bytes;
  came : l.self.came + length l.fn.self.buffer ≡ l.fn.self.came + length l.self.buffer;
  failures : g.R.Source.failure_count l.r ≡ g.R.Source.failure_count l.fn.r;
  read : (s : g.row.R.Denot) (done : List ℕ) →
      IsAt {S = g.row.R.Denot} g.R.Source.read_gives g.R.Source.failure_count s l.fn.r l.fn.self done →
      IsAt {S = g.row.R.Denot} g.R.Source.read_gives g.R.Source.failure_count s l.r l.self done;
}

abbrev pub decreases-pieces : goal.decreases-pieces
decreases-pieces g l = 4096 - length l.self.buffer

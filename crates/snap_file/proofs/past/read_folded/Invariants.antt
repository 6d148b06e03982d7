use Rattle.std.proofs.Common.{◌≡◌, ◌-◌, ◌≤◌}
use Rattle.snap_file.specs.Table.{Reading, Progress, entries_behind}
use Rattle.snap_file.specs.Outcomes.{Task, HasJudged}
use Rattle.snap_file.specs.Lists.{HasPairs, progress_in}
use Rattle.snap_file.proofs.past.read_folded.Given as goal

abbrev pub invariant-loop-i : goal.invariant-loop-i
invariant-loop-i g l = record {
  counted : l.past.counted ≤ l.head.total;
  pairs : HasPairs l.past.pairs l.past.folded.items;
  base : l.past.base ≡ l.fn.past.base;
  failures : g.R.Source.failure_count l.r ≡ g.R.Source.failure_count l.fn.r;
  read : (s : g.row.R.Denot) (m : Task) (k : Progress → Reading) →
      HasJudged {S = g.row.R.Denot} g.R.Source.read_gives g.R.Source.failure_count m s l.fn.r l.fn.reader
      (entries_behind l.head l.count (progress_in l.fn.past) k) →
      HasJudged {S = g.row.R.Denot} g.R.Source.read_gives g.R.Source.failure_count m s l.r l.reader
      (entries_behind l.head (l.count - l.i) (progress_in l.past) k);
}

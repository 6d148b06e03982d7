use Rattle.std.proofs.Common.{◌≡◌, ◌-◌, ◌≤◌, ◌+◌, ◌^◌, ℕ, List, [], take, length}
use Rattle.snap_file.specs.Table.{Reading, cuts_behind}
use Rattle.snap_file.specs.Outcomes.{Task, HasJudged}
use Rattle.snap_file.proofs.CutLemmas.{Rising}
use Rattle.snap_file.proofs.head.read_cuts.Given as goal

abbrev pub invariant-loop-i : goal.invariant-loop-i
invariant-loop-i g l = record {
  seven : length l.cuts ≡ 7;
  low : l.least ≤ 2 ^ 40 + 1;
  rising : Rising l.cuts l.i l.least;
  failures : g.R.Source.failure_count l.r ≡ g.R.Source.failure_count l.fn.r;
  read : (s : g.row.R.Denot) (m : Task) (k : List ℕ → Reading) →
      HasJudged {S = g.row.R.Denot} g.R.Source.read_gives g.R.Source.failure_count m s l.fn.r l.fn.reader
      (cuts_behind l.count 1 [] k) →
      HasJudged {S = g.row.R.Denot} g.R.Source.read_gives g.R.Source.failure_count m s l.r l.reader
      (cuts_behind (l.count - l.i) l.least (take l.i l.cuts) k);
}

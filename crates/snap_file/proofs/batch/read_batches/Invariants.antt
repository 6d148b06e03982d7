use Rattle.std.proofs.Common.{◌≡◌, ◌-◌, ◌≤◌}
use Rattle.batch_store.specs.Batches.{values, entries_of}
use Rattle.snap_file.specs.Table.{batches_behind, rest_of, ending}
use Rattle.snap_file.specs.Outcomes.{Task, HasJudged}
use Rattle.snap_file.specs.Lists.{HasPairs, progress_in, progress_of}
use Rattle.snap_file.proofs.batch.read_batches.Given as goal

abbrev pub invariant-batches : goal.invariant-batches
invariant-batches g l = record {
  counted : l.list.tally.counted ≤ l.front.head.total;
  pairs : HasPairs l.list.pairs (entries_of (values l.list.batches.items));
  failures : g.R.Source.failure_count l.r ≡ g.R.Source.failure_count l.fn.r;
  read : (s : g.row.R.Denot) (m : Task) →
      HasJudged {S = g.row.R.Denot} g.R.Source.read_gives g.R.Source.failure_count m s l.fn.r l.fn.reader
      (rest_of l.front.head l.front.origin (progress_in l.front.past)) →
      HasJudged {S = g.row.R.Denot} g.R.Source.read_gives g.R.Source.failure_count m s l.r l.reader
      (batches_behind l.front.head (l.front.head.batches - l._i) (progress_of l.front.past l.list)
      (ending l.front.head l.front.origin));
}

use Rattle.std.proofs.Common.{◌≡◌, ◌-◌, List}
use Rattle.batch_store.specs.Batches.{Submission, values}
use Rattle.snap_file.specs.Table.{Reading}
use Rattle.snap_file.specs.Outcomes.{Task, HasJudged}
use Rattle.log_batches.specs.Tables.{counted_batches, more_batches}
use Rattle.log_batches.proofs.list.read_list.Given as goal

abbrev pub invariant-batches : goal.invariant-batches
invariant-batches g l = record {
  failures : g.R.Source.failure_count l.r ≡ g.R.Source.failure_count l.fn.r;
  read : (s : g.row.R.Denot) (m : Task) (k : List Submission → Reading) →
      HasJudged {S = g.row.R.Denot} g.R.Source.read_gives g.R.Source.failure_count m s l.fn.r l.fn.reader
      (counted_batches l.head k) →
      HasJudged {S = g.row.R.Denot} g.R.Source.read_gives g.R.Source.failure_count m s l.r l.reader
      (more_batches l.head (l.count - l.i) (values l.batches.items) k);
}

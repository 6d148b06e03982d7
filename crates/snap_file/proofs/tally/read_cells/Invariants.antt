use Rattle.std.proofs.Common.{◌≡◌, ◌-◌, ◌≤◌, ◌+◌, List}
use Rattle.cells.specs.Sums.{cell_total}
use Rattle.cells.specs.declared.cell.Cell.{Cell}
use Rattle.snap_file.specs.Table.{Reading, Tally, cells_behind}
use Rattle.snap_file.specs.Tallies.{tally_of, IsRun}
use Rattle.snap_file.specs.Outcomes.{Task, HasJudged}
use Rattle.snap_file.proofs.tally.read_cells.Given as goal

abbrev pub invariant-loop-i : goal.invariant-loop-i
invariant-loop-i g l = record {
  counted : l.tally.counted ≤ l.most;
  run : IsRun l.head.setup.rows l.head.setup.cols l.tally.cells.items l.tally.least_row l.tally.least_col;
  added : l.tally.counted + cell_total l.fn.tally.cells.items ≡ l.fn.tally.counted + cell_total l.tally.cells.items;
  failures : g.R.Source.failure_count l.r ≡ g.R.Source.failure_count l.fn.r;
  read : (s : g.row.R.Denot) (m : Task) (done : List Cell) (k : Tally → Reading) →
      HasJudged {S = g.row.R.Denot} g.R.Source.read_gives g.R.Source.failure_count m s l.fn.r l.fn.reader
      (cells_behind l.head l.most l.count (tally_of done l.fn.tally) k) →
      HasJudged {S = g.row.R.Denot} g.R.Source.read_gives g.R.Source.failure_count m s l.r l.reader
      (cells_behind l.head l.most (l.count - l.i) (tally_of done l.tally) k);
}

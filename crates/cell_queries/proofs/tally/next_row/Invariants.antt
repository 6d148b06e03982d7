use Rattle.std.proofs.Common.{◌≡◌, ◌<◌, ◌≤◌, length, None}
use Rattle.cell_queries.specs.Tallies.{joined, tallies, rows_left}
use Rattle.cell_queries.proofs.tally.next_row.Given as goal

abbrev pub invariant-cells : goal.invariant-cells
invariant-cells g l = record {
  none : l.ahead ≡ None;
  some : 0 < l.row.entries;
  fewer : length (g.S.CellSource.left l.source) ≤ length (g.S.CellSource.left l.fn.source);
  rows : joined l.row (tallies (g.S.CellSource.left l.source)) ≡
      rows_left l.fn.ahead (g.S.CellSource.left l.fn.source);
}

abbrev pub decreases-cells : goal.decreases-cells
decreases-cells g l = length (g.S.CellSource.left l.source)

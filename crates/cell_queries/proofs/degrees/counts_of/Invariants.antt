use Rattle.std.proofs.Common.{◌≡◌, ◌+◌, length}
use Rattle.std.specs.Prelude.{option_to_list}
use Rattle.cell_queries.specs.Tallies.{tallies, rows_left}
use Rattle.cell_queries.proofs.DegreeLaws.{AreCounted}
use Rattle.cell_queries.proofs.degrees.counts_of.Given as goal

abbrev pub invariant-rows : goal.invariant-rows
invariant-rows g l = record {
  long : length l.counts ≡ 64;
  counted : AreCounted (tallies (g.S.CellSource.left l.fn.source))
      (rows_left l.ahead (g.S.CellSource.left l.source)) l.counts;
}

abbrev pub decreases-rows : goal.decreases-rows
decreases-rows g l = length (g.S.CellSource.left l.source) + length (option_to_list l.ahead)

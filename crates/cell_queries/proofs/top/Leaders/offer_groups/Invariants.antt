use Rattle.std.proofs.Common.{◌≡◌, ℕ, ◌++◌, List, length}
use Rattle.cell_queries.specs.declared.tally.RowTally.{RowTally}
use Rattle.cell_queries.specs.declared.top.TopBy.{TopBy}
use Rattle.cell_queries.specs.Groups.{grouped, IsFrom, opened}
use Rattle.cell_queries.specs.Heaps.{AreLed}
use Rattle.cell_queries.specs.Tallies.{tallies}
use Rattle.cell_queries.proofs.top.Leaders.offer_groups.Given as goal

abbrev pub invariant-cells : goal.invariant-cells
invariant-cells g l = record {
  done : List RowTally;
  led : (by : TopBy) (most : ℕ) (rows : List RowTally) → AreLed by most rows l.fn.self →
      AreLed by most (rows ++ done) l.self;
  from : IsFrom l.groups.rows.first (g.S.CellSource.left l.source);
  whole : done ++ opened l.current (tallies (grouped l.groups (g.S.CellSource.left l.source))) ≡
      tallies (grouped l.groups (g.S.CellSource.left l.fn.source));
}

abbrev pub decreases-cells : goal.decreases-cells
decreases-cells g l = length (g.S.CellSource.left l.source)

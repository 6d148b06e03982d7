use Rattle.std.proofs.Common.{◌≡◌, ℕ, ◌+◌, ◌++◌, List, length}
use Rattle.std.specs.Prelude.{option_to_list}
use Rattle.cell_queries.specs.declared.tally.RowTally.{RowTally}
use Rattle.cell_queries.specs.declared.top.TopBy.{TopBy}
use Rattle.cell_queries.specs.Tallies.{tallies, rows_left}
use Rattle.cell_queries.specs.Heaps.{AreLed}
use Rattle.cell_queries.specs.Shards.{LieInShard}
use Rattle.cell_queries.proofs.top.Leaders.offer_shard.Given as goal

abbrev pub invariant-rows : goal.invariant-rows
invariant-rows g l = record {
  done : List RowTally;
  here : LieInShard l.s l.k done;
  led : (by : TopBy) (most : ℕ) (rows : List RowTally) → AreLed by most rows l.fn.self →
      AreLed by most (rows ++ done) l.self;
  whole : done ++ rows_left l.ahead (g.S.CellSource.left l.source) ≡ tallies (g.S.CellSource.left l.fn.source);
}

abbrev pub decreases-rows : goal.decreases-rows
decreases-rows g l = length (g.S.CellSource.left l.source) + length (option_to_list l.ahead)

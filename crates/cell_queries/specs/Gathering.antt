-- A cell is taken into the groups that are offered one after the other.
use Rattle.std.specs.Prelude.{ℕ, ◌≡◌, ◌++◌, List, Option}
use Rattle.cells.specs.declared.cell.Cell.{Cell}
use Rattle.cell_queries.specs.declared.tally.RowTally.{RowTally}
use Rattle.cell_queries.specs.declared.top.TopBy.{TopBy}
use Rattle.cell_queries.specs.Heaps.{Leading, AreLed}
use Rattle.cell_queries.specs.Tallies.{tally, joined}
use Rattle.cell_queries.specs.Groups.{opened}

-- the groups that were finished by this cell were offered, and `next` is the one that it is in
pub record Gathers (old new : Leading) (current : Option RowTally) (cell : Cell) (next : RowTally) : Type 0 where
  pub done : List RowTally
  pub led : (by : TopBy) (most : ℕ) (rows : List RowTally) → AreLed by most rows old → AreLed by most (rows ++ done) new
  pub whole : (ts : List RowTally) → opened current (joined (tally cell.row 1 cell.count) ts) ≡ done ++ joined next ts

use Rattle.std.proofs.Common.{◌≡◌, ◌-◌, ◌^◌, ◌++◌, List}
use Rattle.cell_queries.specs.declared.tally.RowTally.{RowTally}
use Rattle.cell_queries.specs.Degrees.{degrees_from, degrees_of, AreCounts}
use Rattle.cell_queries.proofs.degrees.listed.Given as goal

abbrev pub invariant-degrees : goal.invariant-degrees
invariant-degrees l = (ts : List RowTally) → AreCounts ts l.counts →
    l.list.items ++ degrees_from (64 - l.k) (2 ^ l.k) ts ≡ degrees_of ts

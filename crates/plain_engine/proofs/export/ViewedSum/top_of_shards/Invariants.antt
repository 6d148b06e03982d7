use Rattle.std.proofs.Common.{take}
use Rattle.std.specs.FinMap.{entries}
use Rattle.cell_queries.specs.Heaps.{AreLed}
use Rattle.cell_queries.specs.Shards.{LieBelow}
use Rattle.cell_queries.specs.Tallies.{tallies}
use Rattle.plain_engine.specs.Views.{sights_content}
use Rattle.plain_engine.proofs.export.ViewedSum.top_of_shards.Given as goal

abbrev pub invariant-views : goal.invariant-views
invariant-views l = record {
  led : AreLed l.fn.by l.most (tallies (entries (sights_content (take l.s l.view-items)))) l.leaders;
  below : LieBelow l.s l.k (tallies (entries (sights_content (take l.s l.view-items))));
}

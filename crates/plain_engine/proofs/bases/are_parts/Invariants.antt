use Rattle.std.proofs.Common.{◌↔◌}
use Rattle.std.specs.FinMap.{entries}
use Rattle.plain_engine.specs.Bases.{AreParts}
use Rattle.plain_engine.proofs.bases.are_parts.Given as goal

abbrev pub invariant-cells : goal.invariant-cells
invariant-cells l = record {
  can : goal.iterator-cells.can_next l.cell-iterator;
  finite : goal.iterator-cells.is_finite l.cell-iterator;
  rest : AreParts 0 l.k l.fn.left (entries l.whole.whole.counts) ↔ AreParts 0 l.k l.left l.cell-iterator;
}

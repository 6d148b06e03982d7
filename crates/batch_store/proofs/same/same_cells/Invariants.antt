use Rattle.std.proofs.Common.{◌≡◌, ◌↔◌}
use Rattle.std.specs.FinMap.{entries}
use Rattle.batch_store.proofs.same.same_cells.Given as goal

abbrev pub invariant-cells : goal.invariant-cells
invariant-cells l = record {
  can : goal.iterator-cells.can_next l.cell-iterator;
  finite : goal.iterator-cells.is_finite l.cell-iterator;
  rest : (entries l.a.counts ≡ entries l.b.counts) ↔ (l.cell-iterator ≡ l.others);
}

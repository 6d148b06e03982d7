use Rattle.std.proofs.Common.{◌≡◌, ◌↔◌}
use Rattle.hyper_matrix.specs.Counts.{part}
use Rattle.hyper_matrix.specs.Parts.{part_entries}
use Rattle.plain_engine.proofs.same.is_part.Given as goal

abbrev pub invariant-cells : goal.invariant-cells
invariant-cells l = record {
  can : goal.iterator-cells.can_next l.cell-iterator;
  finite : goal.iterator-cells.is_finite l.cell-iterator;
  rest : (l.own.counts ≡ part l.whole.whole.counts l.s l.k) ↔ (l.others ≡ part_entries l.s l.k l.cell-iterator);
}

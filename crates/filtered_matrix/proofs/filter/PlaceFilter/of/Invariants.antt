use Rattle.std.proofs.Common.{◌≡◌, ◌<◌, false, length}
use Rattle.std.specs.FinMap.{get, find}
use Rattle.hyper_matrix.specs.Counts.{Place, place_cmp}
use Rattle.filtered_matrix.specs.Filter.{may_have}
use Rattle.filtered_matrix.proofs.filter.PlaceFilter.of.Given as goal

abbrev pub invariant-cells : goal.invariant-cells
invariant-cells l = record {
  can : goal.iterator-cells.can_next l.cell-iterator;
  finite : goal.iterator-cells.is_finite l.cell-iterator;
  some : 0 < length l.filter;
  rest : (p : Place) → may_have l.filter p ≡ false → get l.m.counts p ≡ find place_cmp p l.cell-iterator;
}

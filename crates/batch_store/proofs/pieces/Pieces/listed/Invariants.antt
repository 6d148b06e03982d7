use Rattle.std.proofs.Common.{◌≡◌, ◌++◌, map}
use Rattle.std.specs.FinMap.{entries}
use Rattle.hyper_matrix.specs.Cells.{entry_of}
use Rattle.batch_store.proofs.pieces.Pieces.listed.Given as goal

abbrev pub invariant-cells : goal.invariant-cells
invariant-cells l = record {
  can : (goal.iterator-cells).can_next l.cell-iterator;
  finite : (goal.iterator-cells).is_finite l.cell-iterator;
  told : map entry_of l.list.items ++ l.cell-iterator ≡ entries l.self.whole.counts;
}

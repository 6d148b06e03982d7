use Rattle.std.proofs.Common.{◌≡◌, ℕ, ◌<◌, ◌≤◌, get_or, length}
use Rattle.cells.specs.declared.cell.Cell.{Cell}
use Rattle.cells.specs.Bounds.{IsWithin}
use Rattle.snap_export.specs.Labels.{back}
use Rattle.snap_export.proofs.relabel.relabel.Given as goal

abbrev pub invariant-cells : goal.invariant-cells
invariant-cells l = record {
  all : length l.cells ≡ length l.initial.cells;
  within : (k : ℕ) (d : Cell) → k < l.cell-index → IsWithin (length l.rows) (length l.cols) (get_or l.cells k d);
  done : (k : ℕ) (d : Cell) → k < l.cell-index → back l.rows l.cols (get_or l.cells k d) ≡ get_or l.initial.cells k d;
  rest : (k : ℕ) (d : Cell) → l.cell-index ≤ k → get_or l.cells k d ≡ get_or l.initial.cells k d;
}

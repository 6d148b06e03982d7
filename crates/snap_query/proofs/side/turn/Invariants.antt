use Rattle.std.proofs.Common.{◌≡◌, ℕ, ◌<◌, ◌≤◌, get_or, length}
use Rattle.cells.specs.declared.cell.Cell.{Cell}
use Rattle.snap_query.specs.Turned.{turned_cell}
use Rattle.snap_query.proofs.side.turn.Given as goal

abbrev pub invariant-cells : goal.invariant-cells
invariant-cells l = record {
  all : length l.cells ≡ length l.initial.cells;
  done : (k : ℕ) (d : Cell) → k < l.cell-index → get_or l.cells k d ≡ turned_cell (get_or l.initial.cells k d);
  rest : (k : ℕ) (d : Cell) → l.cell-index ≤ k → get_or l.cells k d ≡ get_or l.initial.cells k d;
}

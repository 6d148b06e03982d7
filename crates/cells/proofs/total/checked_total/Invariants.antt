use Rattle.std.proofs.Common.{◌≡◌, ◌+◌, drop}
use Rattle.cells.specs.Sums.{cell_total}
use Rattle.cells.proofs.total.checked_total.Given as goal

abbrev pub invariant-loop-cell : goal.invariant-loop-cell
invariant-loop-cell l = l.sum + cell_total (drop l.cell-index l.cells) ≡ cell_total l.cells

use Rattle.std.proofs.Common.{◌≡◌, take}
use Rattle.cells.specs.Sums.{cell_total}
use Rattle.cells.proofs.total.total_of.Given as goal

abbrev pub invariant-loop-cell : goal.invariant-loop-cell
invariant-loop-cell l = l.sum ≡ cell_total (take l.cell-index l.cells)

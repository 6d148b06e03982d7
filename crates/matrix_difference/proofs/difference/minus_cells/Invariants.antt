use Rattle.std.proofs.Common.{◌≡◌, drop}
use Rattle.matrix_difference.specs.Walk.{walked}
use Rattle.matrix_difference.proofs.LoopLemmas.{joined}
use Rattle.matrix_difference.proofs.difference.minus_cells.Given as goal

abbrev pub invariant-cells : goal.invariant-cells
invariant-cells l = walked l.new l.old ≡ joined l.more.items (walked (drop l.cell-index l.new) (drop l.at l.old))

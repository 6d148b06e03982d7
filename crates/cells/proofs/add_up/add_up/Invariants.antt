use Rattle.cells.proofs.AddUpLaws.{AreSums}
use Rattle.cells.proofs.add_up.add_up.Given as goal

abbrev pub invariant-cells : goal.invariant-cells
invariant-cells l = AreSums l.fn.cells l.cells l.last l.i

use Rattle.std.proofs.Common.{◌-◌, length}
use Rattle.hyper_matrix.proofs.SearchLaws.{RowSoFar}
use Rattle.hyper_matrix.proofs.search.row_total.Given as goal

abbrev pub invariant-sum : goal.invariant-sum
invariant-sum l = RowSoFar l.row l.cells l.i l.entries l.total

abbrev pub decreases-sum : goal.decreases-sum
decreases-sum l = length l.cells - l.i

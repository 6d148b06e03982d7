use Rattle.std.proofs.Common.{length}
use Rattle.hyper_matrix.proofs.PartLaws.{Counted}
use Rattle.hyper_matrix.proofs.hyper.parts.count_cells.Given as goal

abbrev pub invariant-loop-cell : goal.invariant-loop-cell
invariant-loop-cell l = Counted (length l.fn.counts) l.counts l.cells l.cell-index

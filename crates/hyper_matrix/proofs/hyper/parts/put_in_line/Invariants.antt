use Rattle.std.proofs.Common.{length}
use Rattle.hyper_matrix.proofs.PartLaws.{PutInLine}
use Rattle.hyper_matrix.proofs.hyper.parts.put_in_line.Given as goal

abbrev pub invariant-loop-cell : goal.invariant-loop-cell
invariant-loop-cell l = PutInLine (length l.fn.next) l.line l.next l.cells l.cell-index

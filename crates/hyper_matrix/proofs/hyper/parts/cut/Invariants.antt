use Rattle.std.proofs.Common.{◌≡◌, length}
use Rattle.hyper_matrix.specs.Cells.{built_of}
use Rattle.hyper_matrix.specs.Matrix.{matrix}
use Rattle.hyper_matrix.specs.Parts.{parts_below, count_below}
use Rattle.hyper_matrix.proofs.hyper.parts.cut.Given as goal

abbrev pub invariant-loop-end : goal.invariant-loop-end
invariant-loop-end l = record {
  from : l.from ≡ count_below l.end-index (length l.ends) l.cells;
  told : l.parts.items ≡ parts_below l.end-index (length l.ends) (matrix l.whole.rows l.whole.cols (built_of l.cells));
}

use Rattle.std.proofs.Common.{◌≡◌, drop}
use Rattle.hyper_matrix.specs.Refusals.{first_fault}
use Rattle.hyper_matrix.proofs.judge.judge_cells.Given as goal

abbrev pub invariant-loop-cell : goal.invariant-loop-cell
invariant-loop-cell l = first_fault l.rows l.cols l.sum (drop l.cell-index l.cells) ≡
    first_fault l.rows l.cols 0 l.cells

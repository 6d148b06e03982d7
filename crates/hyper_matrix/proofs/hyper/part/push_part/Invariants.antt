use Rattle.std.proofs.Common.{◌≡◌, ◌++◌, drop}
use Rattle.hyper_matrix.specs.Parts.{shard_cells}
use Rattle.hyper_matrix.proofs.hyper.part.push_part.Given as goal

abbrev pub invariant-loop-cell : goal.invariant-loop-cell
invariant-loop-cell l = l.out.items ++ shard_cells l.s l.k (drop l.cell-index l.cells) ≡
    l.fn.out.items ++ shard_cells l.s l.k l.cells

use Rattle.std.proofs.Common.{◌+◌, ◌<◌, length, arith}
use Rattle.hyper_matrix.proofs.PartLaws.{below_next, below_le, count_all}
use Rattle.hyper_matrix.proofs.hyper.parts.find_begins.Goals as goal

pub overflow_add-end : goal.overflow_add-end
overflow_add-end c =
    let k = length c.args.begins.now in
    let i = c.loop-i.i in
    let cells = c.args.cells.now in
    let lt : i < k = omega arith in
    omega (
      arith,
      c.loop-i.invariant.end,
      c.loop-i.invariant.left i (omega arith) lt,
      below_next i k cells,
      below_le (i + 1) k k cells (omega arith),
      count_all k cells c.requires.some,
    )

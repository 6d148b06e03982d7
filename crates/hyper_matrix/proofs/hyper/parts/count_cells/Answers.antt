use Rattle.std.proofs.Common.{◌<◌, length, get_or, arith}
use Rattle.std.proofs.lemmas.Nat.{mod_below}
use Rattle.cells.specs.declared.cell.Cell.{Cell}
use Rattle.hyper_matrix.proofs.PartLaws.{few_taken}
use Rattle.hyper_matrix.proofs.hyper.parts.count_cells.Goals as goal

pub overflow_add-counts : goal.overflow_add-counts
overflow_add-counts c =
    let d : Cell = record { row = 0; col = 0; count = 0 } in
    let k = length c.args.counts.now in
    let row = (get_or c.args.cells.now c.loop-cell.cell-index d).row in
    let below : c.shard_of-s.result < k = omega (arith, c.shard_of-s.ensures, mod_below row k c.requires.some) in
    omega (
      arith,
      c.loop-cell.invariant c.shard_of-s.result below,
      few_taken c.shard_of-s.result k c.loop-cell.cell-index c.args.cells.now,
    )

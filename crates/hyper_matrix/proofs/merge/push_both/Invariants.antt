use Rattle.std.proofs.Common.{◌+◌, ◌-◌, ◌≤◌, List, length}
use Rattle.std.specs.Prelude.{vec_len, vec_capacity}
use Rattle.cells.specs.declared.cell.Cell.{Cell}
use Rattle.hyper_matrix.specs.Merge.{SumsTo}
use Rattle.hyper_matrix.proofs.merge.push_both.Given as goal

abbrev pub invariant-steps : goal.invariant-steps
invariant-steps l = record {
  left : l.i ≤ length l.left;
  right : l.j ≤ length l.right;
  room : vec_len l.out + (length l.left + length l.right) ≤ vec_capacity l.out + (l.i + l.j);
  sums : (begun : List Cell) → SumsTo begun l.fn.out.items l.left l.right l.fn.from.0 l.fn.from.1 →
      SumsTo begun l.out.items l.left l.right l.i l.j;
}

abbrev pub decreases-steps : goal.decreases-steps
decreases-steps l = (length l.left - l.i) + (length l.right - l.j)

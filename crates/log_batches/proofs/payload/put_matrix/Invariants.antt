use Rattle.std.proofs.Common.{◌≡◌, ◌+◌, ◌*◌, ◌++◌, length, take}
use Rattle.snap_file.specs.Spelling.{cells_bytes, matrix_bytes}
use Rattle.log_batches.proofs.payload.put_matrix.Given as goal

abbrev pub invariant-loop-cell : goal.invariant-loop-cell
invariant-loop-cell l = record {
  can : goal.iterator-loop-cell.can_next l.cell-iterator;
  finite : goal.iterator-loop-cell.is_finite l.cell-iterator;
  counted : l.end + 24 * length l.cell-iterator ≡ l.at + length (matrix_bytes l.m.counts);
  long : length l.out ≡ length l.fn.out;
  written : take l.end l.out ++ cells_bytes l.cell-iterator ≡ take l.at l.fn.out ++ matrix_bytes l.m.counts;
}

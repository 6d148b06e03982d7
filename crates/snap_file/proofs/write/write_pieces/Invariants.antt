use Rattle.std.proofs.Common.{◌≡◌, ◌≤◌, ◌+◌, ◌*◌, ◌^◌, ℕ, List, ◌++◌, length}
use Rattle.snap_file.specs.Spelling.{cells_bytes, matrix_bytes}
use Rattle.snap_file.specs.Writing.{IsWriting}
use Rattle.snap_file.proofs.write.write_pieces.Given as goal

abbrev pub invariant-loop-cell : goal.invariant-loop-cell
invariant-loop-cell g l = record {
  can : (goal.iterator-loop-cell g).can_next l.cell-iterator;
  finite : (goal.iterator-loop-cell g).is_finite l.cell-iterator;
  failures : g.W.Sink.failure_count l.w ≡ g.W.Sink.failure_count l.fn.w;
  counted : l.writer.taken + length l.writer.pending + 24 * length l.cell-iterator ≤ l.fn.writer.taken +
      length l.fn.writer.pending + 2 ^ 69;
  written : (s : g.row.W.Denot) (all left : List ℕ) →
      IsWriting {S = g.row.W.Denot} g.W.Sink.write_takes g.W.Sink.failure_count s l.fn.w all l.fn.writer
      (matrix_bytes l.m.whole.counts ++ left) →
      IsWriting {S = g.row.W.Denot} g.W.Sink.write_takes g.W.Sink.failure_count s l.w all l.writer
      (cells_bytes l.cell-iterator ++ left);
}

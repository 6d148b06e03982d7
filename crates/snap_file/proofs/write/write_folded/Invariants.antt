use Rattle.std.proofs.Common.{◌≡◌, ◌≤◌, ◌+◌, ◌*◌, ℕ, List, ◌++◌, length, drop, flat_map}
use Rattle.snap_file.specs.Spelling.{entry_bytes}
use Rattle.snap_file.specs.Writing.{IsWriting}
use Rattle.snap_file.proofs.write.write_folded.Given as goal

abbrev pub invariant-loop-entry : goal.invariant-loop-entry
invariant-loop-entry g l = record {
  failures : g.W.Sink.failure_count l.w ≡ g.W.Sink.failure_count l.fn.w;
  counted : l.writer.taken + length l.writer.pending ≤ l.fn.writer.taken + length l.fn.writer.pending +
      32 * l.entry-index;
  written : (s : g.row.W.Denot) (all left : List ℕ) →
      IsWriting {S = g.row.W.Denot} g.W.Sink.write_takes g.W.Sink.failure_count s l.fn.w all l.fn.writer
      (flat_map entry_bytes l.folded ++ left) →
      IsWriting {S = g.row.W.Denot} g.W.Sink.write_takes g.W.Sink.failure_count s l.w all l.writer
      (flat_map entry_bytes (drop l.entry-index l.folded) ++ left);
}

use Rattle.std.proofs.Common.{◌≡◌, ℕ, ◌+◌, List, ◌++◌, take}
use Rattle.mm_text.specs.Canonical.{entry_lines}
use Rattle.mm_text.specs.Writing.{HasWritten}
use Rattle.mm_text.proofs.writer.TextWriter.write_cells.Given as goal

abbrev pub invariant-loop-cell : goal.invariant-loop-cell
invariant-loop-cell g l = record {
  dims : (l.self.rows ≡ l.initial.self.rows) × (l.self.cols ≡ l.initial.self.cols);
  left : l.self.left + l.cell-index ≡ l.initial.self.left;
  failures : g.W.Sink.failure_count l.w ≡ g.W.Sink.failure_count l.initial.w;
  written : (s : g.row.W.Denot) (text : List ℕ) →
      HasWritten g.W.Sink.write_takes g.W.Sink.failure_count s l.initial.w text l.initial.self →
      HasWritten g.W.Sink.write_takes g.W.Sink.failure_count s l.w (text ++ entry_lines (take l.cell-index l.cells))
      l.self;
}

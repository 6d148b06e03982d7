use Rattle.std.proofs.Common.{◌≡◌, ℕ, List, ◌++◌, length, map}
use Rattle.std.specs.List.{AllByRecursion}
use Rattle.hyper_matrix.specs.Shared.{LiesWithin}
use Rattle.mm_text.specs.Canonical.{entry_lines}
use Rattle.mm_text.specs.Writing.{HasWritten}
use Rattle.mm_laws.specs.MatrixText.{cell_of, matrix_text}
use Rattle.snap_export.proofs.several.write_hyper.Given as goal

abbrev pub invariant-loop-cell : goal.invariant-loop-cell
invariant-loop-cell g l = record {
  can : (goal.iterator-loop-cell g).can_next l.cell-iterator;
  finite : (goal.iterator-loop-cell g).is_finite l.cell-iterator;
  failures : g.W.Sink.failure_count l.w ≡ g.W.Sink.failure_count l.initial.w;
  declared : l.writer.left ≡ length l.cell-iterator;
  dims : (l.writer.rows ≡ l.m.rows) × (l.writer.cols ≡ l.m.cols);
  within : AllByRecursion (LiesWithin l.m.rows l.m.cols) l.cell-iterator;
  written : (text : List ℕ) × HasWritten g.W.Sink.write_takes g.W.Sink.failure_count l.initial.w l.w text l.writer
      × (text ++ entry_lines (map cell_of l.cell-iterator) ≡ matrix_text l.m);
}

use Rattle.std.proofs.Common.{◌≡◌, ◌+◌, ◌≤◌, length, map}
use Rattle.std.specs.FinMap.{entries, len}
use Rattle.mm_text.specs.Canonical.{entry_lines}
use Rattle.cells.specs.Bounds.{IsDimension}
use Rattle.merged_cells.specs.Within.{LieWithin}
use Rattle.mm_laws.specs.MatrixText.{cell_of}
use Rattle.wire_proto.proofs.exporting.text_size.Given as goal

abbrev pub invariant-loop-cell : goal.invariant-loop-cell
invariant-loop-cell l = record {
  can : (goal.iterator-loop-cell).can_next l.cell-iterator;
  finite : (goal.iterator-loop-cell).is_finite l.cell-iterator;
  rows : IsDimension l.sum.rows;
  cols : IsDimension l.sum.cols;
  within : LieWithin l.sum.rows l.sum.cols l.cell-iterator;
  bound : l.len ≤ 67108927;
  few : l.count ≤ l.len;
  counted : l.len + length (entry_lines (map cell_of (entries l.cell-iterator))) ≡
      49 + length (entry_lines (map cell_of (entries l.sum.counts)));
  told : l.count + length (entries l.cell-iterator) ≡ len l.sum.counts;
}

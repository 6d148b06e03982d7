use Rattle.std.proofs.Common.{◌≡◌, ◌≤◌, List, length, vec_capacity}
use Rattle.cells.specs.declared.cell.Cell.{Cell}
use Rattle.mm_text.specs.declared.size.Size.{Size}
use Rattle.mm_sum.specs.Reading.{IsSumming}
use Rattle.mm_sum.proofs.reading.sum_blocks.Given as goal

abbrev pub invariant-text : goal.invariant-text
invariant-text g l = record {
  failures : g.R.Source.failure_count l.r ≡ g.R.Source.failure_count l.initial.r;
  reserved : 4096 ≤ vec_capacity l.block;
  summing : (earlier : List Cell) (s : _) (size : Size) →
      IsSumming g.R.Source.read_gives g.R.Source.at_end g.R.Source.failure_count earlier s l.initial.r
      l.initial.reader size l.initial.sum →
      (now : IsSumming g.R.Source.read_gives g.R.Source.at_end g.R.Source.failure_count earlier s l.r l.reader size
      l.sum) × (l._blocks ≤ length now.cells);
}

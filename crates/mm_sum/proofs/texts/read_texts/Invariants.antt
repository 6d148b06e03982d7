use Rattle.std.proofs.Common.{◌≡◌, ◌≤◌, List, length, vec_capacity}
use Rattle.cells.specs.declared.cell.Cell.{Cell}
use Rattle.mm_sum.specs.Running.{IsSumOf}
use Rattle.mm_sum.specs.Several.{joined, ReadsTexts}
use Rattle.mm_sum.proofs.texts.read_texts.Given as goal

abbrev pub invariant-texts : goal.invariant-texts
invariant-texts g l = record {
  failures : g.T.Source.failure_count l.texts ≡ g.T.Source.failure_count l.fn.texts;
  reserved : 4096 ≤ vec_capacity l.block;
  summed : (lists : List (List Cell)) × (length lists ≡ l.text)
      × ReadsTexts g.T.Source.read_gives g.T.Source.at_end g.T.Source.failure_count g.T.Texts.open_gives l.fn.texts
      l.texts l.size.rows l.size.cols lists × IsSumOf l.size.rows l.size.cols (joined lists) l.sum;
}

use Rattle.std.proofs.Common.{◌≡◌, ◌≤◌, length, vec_capacity, Some}
use Rattle.mm_text.specs.declared.size.Size.{Size}
use Rattle.mm_text.specs.Readings.{GoesOn, size_of}
use Rattle.mm_text.proofs.text_reader.TextReader.read_block.Given as goal

abbrev pub invariant-pieces : goal.invariant-pieces
invariant-pieces g l = record {
  room : length l.block.items ≤ l.most;
  goes : GoesOn {S = g.row.R.Denot} g.R.Source.read_gives l.fn.r l.r l.fn.self l.self l.fn.block.items l.block.items;
  failures : g.R.Source.failure_count l.r ≡ g.R.Source.failure_count l.fn.r;
  grows : vec_capacity l.fn.block ≤ vec_capacity l.block;
  size : (s : Size) → size_of l.fn.self ≡ Some s → size_of l.self ≡ Some s;
}

abbrev pub decreases-pieces : goal.decreases-pieces
decreases-pieces g l = l.self.room

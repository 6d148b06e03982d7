use Rattle.std.proofs.Common.{◌≤◌, ◌+◌, ◌-◌, length, take, vec_capacity}
use Rattle.mm_text.specs.Stages.{state_of, Advances}
use Rattle.mm_text.proofs.line_reader.LineReader.take_lines.Given as goal

abbrev pub invariant-lines : goal.invariant-lines
invariant-lines l = record {
  within : l.start ≤ length l.bytes;
  count : l.self.progress.lines ≤ l.fn.self.progress.lines + l.start;
  room : length l.block.items ≤ l.most;
  grows : vec_capacity l.fn.block ≤ vec_capacity l.block;
  advances : Advances l.limits (take l.start l.bytes) (state_of l.fn.self) l.fn.block.items (state_of l.self)
      l.block.items;
}

abbrev pub decreases-lines : goal.decreases-lines
decreases-lines l = length l.bytes - l.start

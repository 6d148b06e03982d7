use Rattle.std.proofs.Common.{◌-◌, ◌+◌, ◌*◌, ◌≤◌, [], length, take, vec_capacity}
use Rattle.mm_text.specs.Stages.{state, Advances}
use Rattle.mm_text.specs.declared.limits.TextLimits.{TextLimits}
use Rattle.mm_text.specs.declared.stages.Stage.TheVariants.{AtEntries}
use Rattle.mm_text.proofs.plain.take_entries.Given as goal

abbrev pub invariant-entries : goal.invariant-entries
invariant-entries l = record {
  within : l.start ≤ length l.bytes;
  count : l.lines ≤ l.fn.progress.lines + l.start;
  room : length l.block.items ≤ l.most;
  few : length l.block.items ≤ length l.fn.block.items + 2 * l.start;
  grows : vec_capacity l.fn.block ≤ vec_capacity l.block;
  advances : (limits : TextLimits) → Advances limits (take l.start l.bytes)
      (state [] l.fn.progress.stage l.fn.progress.lines) l.fn.block.items
      (state [] (AtEntries l.symmetric l.size l.seen) l.lines) l.block.items;
}

abbrev pub decreases-entries : goal.decreases-entries
decreases-entries l = l.size.entries - l.seen

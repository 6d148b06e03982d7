use Rattle.std.proofs.Common.{◌≡◌, take}
use Rattle.log_read.specs.Logs.{pages_in}
use Rattle.snap_salvage.proofs.joining.pages_of.Given as goal

abbrev pub invariant-loop-block : goal.invariant-loop-block
invariant-loop-block l = l.pages ≡ pages_in (take l.block-index l.blocks)

use Rattle.std.proofs.Common.{◌≡◌, take}
use Rattle.log_read.specs.Logs.{pages_in}
use Rattle.snap_report.proofs.check_log.pages_of.Given as goal

abbrev pub invariant-loop-block : goal.invariant-loop-block
invariant-loop-block l = l.pages ≡ pages_in (take l.block-index l.blocks)

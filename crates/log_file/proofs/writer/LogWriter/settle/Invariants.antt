use Rattle.std.proofs.Common.{◌≡◌, ◌*◌, ◌<◌, ◌≤◌, ℕ, List, drop}
use Rattle.std.specs.Prelude.{false, Ok}
use Rattle.log_blocks.specs.Blocks.{Block}
use Rattle.log_blocks.specs.Files.{IsSame, recovered}
use Rattle.log_file.specs.Logs.{HoldsLog, MayHoldNext, with_blocks}
use Rattle.log_file.specs.Runs.{Stays}
use Rattle.log_file.proofs.Settled.{StillReads}
use Rattle.log_file.proofs.writer.LogWriter.settle.Given as goal

abbrev pub invariant-loop-page : goal.invariant-loop-page
invariant-loop-page g l = record {
  next : g.D.LogDisk.tells l.fn.disk → Stays g.D.LogDisk.written g.D.LogDisk.may_leave g.D.LogDisk.moment
      g.D.LogDisk.left_since (MayHoldNext g.known.0 g.known.1) l.fn.disk l.disk;
  gone : g.D.LogDisk.tells l.fn.disk → (found : List Block)
      → recovered g.known.0.first (drop 4096 (g.D.LogDisk.written l.fn.disk)) ≡ Ok found
      → ((left : List ℕ) → g.D.LogDisk.may_leave l.fn.disk left → IsSame left (g.D.LogDisk.written l.fn.disk))
      → Stays g.D.LogDisk.written g.D.LogDisk.may_leave g.D.LogDisk.moment g.D.LogDisk.left_since
      (StillReads g.known.0 g.known.1 (4096 * l.end.page) (g.D.LogDisk.written l.fn.disk)) l.fn.disk l.disk;
  whole : g.D.LogDisk.tells l.fn.disk → (found : List Block)
      → recovered g.known.0.first (drop 4096 (g.D.LogDisk.written l.fn.disk)) ≡ Ok found
      → HoldsLog (with_blocks g.known.0 found) (g.D.LogDisk.written l.disk);
  fresh : g.D.LogDisk.tells l.fn.disk → (i : ℕ) → 4096 * l.end.last ≤ i → i < 4096 * l.page
      → g.D.LogDisk.is_fresh l.disk i;
  behind : g.D.LogDisk.tells l.fn.disk → (i : ℕ) → 4096 * l.end.page ≤ i → g.D.LogDisk.is_fresh l.disk i;
  tells : g.D.LogDisk.tells l.fn.disk → g.D.LogDisk.tells l.disk;
  sound : g.D.LogDisk.in_doubt l.disk ≡ false;
  count : g.D.LogDisk.failure_count l.disk ≡ g.D.LogDisk.failure_count l.fn.disk;
}

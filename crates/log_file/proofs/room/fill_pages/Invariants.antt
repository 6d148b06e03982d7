use Rattle.std.proofs.Common.{◌≡◌, ℕ, ◌*◌, ◌+◌, ◌<◌, ◌≤◌, length, min}
use Rattle.std.specs.Prelude.{false}
use Rattle.log_file.specs.Logs.{HoldsLog}
use Rattle.log_file.specs.Runs.{Stays}
use Rattle.log_file.specs.Writer.{IsLong}
use Rattle.log_file.proofs.room.fill_pages.Given as goal

abbrev pub invariant-loop-i : goal.invariant-loop-i
invariant-loop-i g l = record {
  stays : g.D.LogDisk.telling
      → Stays g.D.LogDisk.written g.D.LogDisk.may_leave g.D.LogDisk.moment g.D.LogDisk.left_since (HoldsLog g.log)
      l.initial.disk l.disk;
  long : g.D.LogDisk.tells l.initial.disk → 0 < l.i
      → 4096 * (l.initial.from + min l.initial.pages (16 * l.i)) ≤ length (g.D.LogDisk.written l.disk);
  no_shorter : g.D.LogDisk.tells l.initial.disk → (n : ℕ)
      → IsLong g.D.LogDisk.written g.D.LogDisk.may_leave l.initial.disk n
      → IsLong g.D.LogDisk.written g.D.LogDisk.may_leave l.disk n;
  tells : g.D.LogDisk.tells l.initial.disk → g.D.LogDisk.tells l.disk;
  sound : g.D.LogDisk.in_doubt l.disk ≡ false;
  count : g.D.LogDisk.failure_count l.disk ≡ g.D.LogDisk.failure_count l.initial.disk;
}

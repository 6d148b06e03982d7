-- How the front of a log is found.
--     IsWrong kind        a fault of the bytes of a log, and not of the reading of them
--     HasFront reads fronts u v front
--                         the log's file, which went from u to v, has answered one reading with a log; or with a fault of
--                         its head's page; or with a fault of another page, and then a reading of the pages before that
--                         one with a log
--     IsFrontRead front   what was read so is a log
use Rattle.std.specs.Prelude.{◌≡◌, ℕ, ◌≤◌, Result, Ok, Err}
use Rattle.log_blocks.specs.declared.fault.LogFault.{LogFault}
use Rattle.log_blocks.specs.declared.fault.LogKind.{LogKind}
use Rattle.log_blocks.specs.declared.fault.LogKind.TheVariants as kind
use Rattle.log_read.specs.declared.file.LogFile.{LogFile}
use Rattle.snap_report.specs.Kept.{most_bytes}
use Rattle.snap_report.specs.Logged.{IsRead}
use Rattle.snap_report.specs.declared.kept_log.LogFileFault.{LogFileFault}
use Rattle.snap_report.specs.declared.kept_log.LogFileFault.TheVariants as log
use Rattle.snap_salvage.specs.declared.front.Front.{Front}
use Rattle.snap_salvage.specs.declared.front.Front.TheVariants.{Whole, Before, Headless}

abbrev pub IsWrong : LogKind → Type 0
IsWrong kind.Read = ⊥
IsWrong kind.Memory = ⊥
IsWrong kind.TooLong = ⊥
IsWrong _ = Unit {0}

-- this reading has found a fault of the bytes
abbrev pub HasFault : {L : Type 0} → (L → ℕ → Result LogFile LogFileFault → L → Type 0) → L → L → LogFault → Type 0
HasFault reads u v fault = IsWrong fault.kind × reads u most_bytes (Err (log.Log fault)) v

abbrev pub HasFront : {L : Type 0} → (L → ℕ → Result LogFile LogFileFault → L → Type 0) →
    (L → ℕ → Result LogFile LogFileFault → L → Type 0) → L → L → Front → Type 0
HasFront reads fronts u v (Whole file) = reads u most_bytes (Ok file) v
HasFront {L} reads fronts u v (Before file fault) =
    (m : L) × HasFault reads u m fault × (1 ≤ fault.page) × fronts m fault.page (Ok file) v
HasFront reads fronts u v (Headless fault) = HasFault reads u v fault × (fault.page ≡ 0)

abbrev pub IsFrontRead : Front → Type 0
IsFrontRead (Whole file) = IsRead most_bytes file
IsFrontRead (Before file fault) = IsRead most_bytes file
IsFrontRead (Headless fault) = Unit {0}

-- What is told of a snapshot, or none, and the log beside it.
use Rattle.std.proofs.Common.{◌≢◌, ℕ, Option, Some, Result, Ok, Err, IfOk, IfErr, inr}
use Rattle.snap_file.specs.Snapshots.{Saved}
use Rattle.log_read.specs.declared.file.LogFile.{LogFile}
use Rattle.snap_report.specs.Kept.{most_bytes}
use Rattle.snap_report.specs.Logged.{IsJoinOf, IsReadFault, IsUnjoined}
use Rattle.snap_report.specs.declared.kept_log.LogFileFault.{LogFileFault}
use Rattle.snap_report.specs.declared.fault.CheckFault.{CheckFault}
use Rattle.snap_report.specs.declared.fault.CheckFault.TheVariants as check
use Rattle.snap_report.proofs.JoinedLemmas.{unjoined_read}
use Rattle.snap_export.specs.Pairs.{Finds, Gives}

pub gives_joined : {F L : Type 0} (loads : F → ℕ → Result Saved CheckFault → F → Type 0)
    (reads : L → ℕ → Result (Option LogFile) LogFileFault → L → Type 0) (s t : F) (u v : L) (n : ℕ)
    (r : Result Saved CheckFault) (found : Option Saved) (log : LogFile) → Finds loads s t n found →
    reads u most_bytes (Ok (Some log)) v → IfOk r (IsJoinOf found log) → IfErr r (IsUnjoined found log) →
    Gives loads reads s t u v n r
gives_joined loads reads s t u v n (Ok x) found log loaded read joined told = record {
  found = found;
  log = Some log;
  read = record { loaded = loaded; read = read };
  whole = joined;
}
gives_joined loads reads s t u v n (Err fault) found log loaded read joined told = inr (inr (record {
  found = found;
  log = Some log;
  read = record { loaded = loaded; read = read };
  told = told;
}))

-- a fault of the two is one of what was read
pub joined_read : (r : Result Saved CheckFault) (found : Option Saved) (log : LogFile) →
    IfErr r (IsUnjoined found log) → IfErr r (λ fault. fault ≢ check.Memory → IsReadFault fault)
joined_read (Ok x) found log told = tt
joined_read (Err fault) found log told = unjoined_read found log fault told

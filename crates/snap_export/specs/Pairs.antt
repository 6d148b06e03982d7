-- Snapshots and the logs beside them, of which each pair is loaded as one snapshot.
--     Finds loads s t n found
--                     the files of snapshots, which went from s to t, have answered the next load with this snapshot,
--                     or that there is no such file
--     IsWhole found log x
--                     x is what both have together: where there is no log, the snapshot as it is
--     IsPair .. x     the next snapshot was loaded, if it is there, and then the log beside it was read, if one is, and
--                     x is what both have together
--     TellsPair .. fault
--                     by cases: the snapshot's load has answered the fault, and no log is read; or the reading of the
--                     log has; or there is neither a snapshot nor a log; or the two don't belong together, or there was no
--                     memory for what they have
--     Gives .. answer so the two have answered
use Rattle.std.specs.Prelude.{◌≡◌, ◌≢◌, ◌⊎◌, ℕ, Option, Some, None, Result, Ok, Err}
use Rattle.snap_file.specs.Snapshots.{Saved}
use Rattle.snap_file.specs.declared.fault.FileFault.{FileFault}
use Rattle.log_read.specs.declared.file.LogFile.{LogFile}
use Rattle.snap_report.specs.Checks.{fault_of_log}
use Rattle.snap_report.specs.Kept.{most_bytes}
use Rattle.snap_report.specs.Logged.{IsJoinOf, IsUnjoined}
use Rattle.snap_report.specs.declared.kept_log.LogFileFault.{LogFileFault}
use Rattle.snap_report.specs.declared.fault.CheckFault.{CheckFault}
use Rattle.snap_report.specs.declared.fault.CheckFault.TheVariants as check

abbrev pub no_file : CheckFault
no_file = check.File FileFault.NotFound

abbrev pub Finds : {F : Type 0} → (F → ℕ → Result Saved CheckFault → F → Type 0) → F → F → ℕ → Option Saved → Type 0
Finds loads s t n (Some x) = loads s n (Ok x) t
Finds loads s t n None = loads s n (Err no_file) t

-- a snapshot without a log
abbrev pub alone : Option Saved → Result Saved CheckFault
alone (Some x) = Ok x
alone None = Err no_file

abbrev pub IsWhole : Option Saved → Option LogFile → Saved → Type 0
IsWhole found (Some log) x = IsJoinOf found log x
IsWhole found None x = found ≡ Some x

abbrev pub IsNotWhole : Option Saved → Option LogFile → CheckFault → Type 0
IsNotWhole found (Some log) fault = IsUnjoined found log fault
IsNotWhole found None fault = (found ≡ None) × (fault ≡ no_file)

module _ {F L : Type 0} (loads : F → ℕ → Result Saved CheckFault → F → Type 0)
    (reads : L → ℕ → Result (Option LogFile) LogFileFault → L → Type 0) where
  -- both files have answered
  pub record AreRead (s t : F) (u v : L) (n : ℕ) (found : Option Saved) (log : Option LogFile) : Type 0 where
    pub loaded : Finds loads s t n found
    pub read : reads u most_bytes (Ok log) v

  pub record IsPair (s t : F) (u v : L) (n : ℕ) (x : Saved) : Type 0 where
    pub found : Option Saved
    pub log : Option LogFile
    pub read : AreRead s t u v n found log
    pub whole : IsWhole found log x

  pub record IsLogUnread (s t : F) (u v : L) (n : ℕ) (fault : CheckFault) : Type 0 where
    pub found : Option Saved
    pub loaded : Finds loads s t n found
    pub why : LogFileFault
    pub read : reads u most_bytes (Err why) v
    pub fault_is : fault ≡ fault_of_log why

  pub record IsNoPair (s t : F) (u v : L) (n : ℕ) (fault : CheckFault) : Type 0 where
    pub found : Option Saved
    pub log : Option LogFile
    pub read : AreRead s t u v n found log
    pub told : IsNotWhole found log fault

  abbrev pub TellsPair : F → F → L → L → ℕ → CheckFault → Type 0
  TellsPair s t u v n fault =
      ((fault ≢ no_file) × loads s n (Err fault) t × (v ≡ u))
      ⊎ (IsLogUnread s t u v n fault ⊎ IsNoPair s t u v n fault)

  abbrev pub Gives : F → F → L → L → ℕ → Result Saved CheckFault → Type 0
  Gives s t u v n (Ok x) = IsPair s t u v n x
  Gives s t u v n (Err fault) = TellsPair s t u v n fault

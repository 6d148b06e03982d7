-- What a fault of `salvage` says of the calls that were made.
--     IsSnapshotUnread loads s t fault
--                         the snapshot's file, which went from s to t, has answered a load with this fault, and not that
--                         there is no such file
--     IsFrontUnread reads fronts u v fault
--                         the log's file, which went from u to v, has answered the first reading with this fault; or that
--                         with one of its bytes, and the reading of the pages before that with this one
--     IsApart found file fault
--                         a start refuses this log beside the snapshot, or beside nothing, with this fault, or there is no
--                         memory; and it doesn't begin after the end of the snapshot
--     IsUnsalvaged found front fault
--                         so for the front of a log; and there is no snapshot where the log has no head
--     IsUncounted lefts u v from fault
--                         the log's file has answered the count of the pages from this one on with this fault
--     IsReadReported .. fault what is reported of the reading of both
--     IsMakeReported makes takes failures a b p q o v accepted line fault
--                         the new file, which went from a to b, has answered with this fault, and nothing was written; or
--                         that it was made, and the sink, which went from p to q, didn't take the whole line
--     IsMadeReported .. fault so it was, once both had been read and counted
--     IsUnmade .. fault   a fault of the reading, after which nothing was made or written
use Rattle.std.specs.Prelude.{◌≡◌, ◌≢◌, ◌⊎◌, ℕ, List, Option, None, Result, Ok, Err}
use Rattle.byte_io.specs.Streams.{Answer}
use Rattle.byte_io.specs.Writing.{HasStopped}
use Rattle.batch_store.specs.Accepted.{Accepted, count_in, total_in}
use Rattle.batch_store.specs.Books.{accepted_in}
use Rattle.batch_store.specs.Setups.{Setting}
use Rattle.snap_file.specs.Snapshots.{Saved}
use Rattle.snap_file.specs.declared.fault.FileFault.{FileFault}
use Rattle.snap_file.specs.declared.fault.FileFault.TheVariants.{NotFound}
use Rattle.snap_file.specs.declared.fault.SaveFault.{SaveFault}
use Rattle.snap_file.specs.declared.origin.Identity.{Identity}
use Rattle.snap_file.specs.declared.origin.Origin.{Origin}
use Rattle.log_blocks.specs.declared.fault.LogFault.{LogFault}
use Rattle.log_read.specs.declared.file.LogFile.{LogFile}
use Rattle.snap_report.specs.Checks.{fault_of_file, fault_of_log}
use Rattle.snap_report.specs.Kept.{most_bytes}
use Rattle.snap_report.specs.Logged.{HasFound, IsUnjoined}
use Rattle.snap_report.specs.declared.fault.CheckFault.{CheckFault}
use Rattle.snap_report.specs.declared.kept_log.LogFileFault.{LogFileFault}
use Rattle.snap_report.specs.declared.kept_log.LogFileFault.TheVariants as log
use Rattle.snap_report.specs.declared.making.MakeFault.{MakeFault}
use Rattle.snap_report.specs.declared.making.MakeFault.TheVariants.{Read, Save, Output}
use Rattle.snap_salvage.specs.Found.{HasFault, HasFront}
use Rattle.snap_salvage.specs.Lines.{salvage_line}
use Rattle.snap_salvage.specs.Salvages.{HasSalvaged, IsGap, IsSalvaged, salvage_origin}
use Rattle.snap_salvage.specs.declared.front.Front.{Front}
use Rattle.snap_salvage.specs.declared.front.Front.TheVariants.{Whole, Before, Headless}
use Rattle.snap_salvage.specs.declared.salvage_end.SalvageEnd.{SalvageEnd}
use Rattle.snap_salvage.specs.declared.left.Left.{Left}

pub record IsSnapshotUnread {F : Type 0} (loads : F → ℕ → Result Saved FileFault → F → Type 0) (s t : F)
    (fault : CheckFault) : Type 0 where
  pub why : FileFault
  pub fault_is : fault ≡ fault_of_file why
  pub there : why ≢ NotFound
  pub loaded : loads s most_bytes (Err why) t

pub record IsLogUnread {L : Type 0} (reads : L → ℕ → Result LogFile LogFileFault → L → Type 0) (u v : L)
    (fault : CheckFault) : Type 0 where
  pub why : LogFileFault
  pub fault_is : fault ≡ fault_of_log why
  pub read : reads u most_bytes (Err why) v

pub record IsBeforeUnread {L : Type 0} (reads fronts : L → ℕ → Result LogFile LogFileFault → L → Type 0) (u v : L)
    (fault : CheckFault) : Type 0 where
  pub first : LogFault
  pub between : L
  pub why : LogFileFault
  pub fault_is : fault ≡ fault_of_log why
  pub read : HasFault reads u between first
  pub before : fronts between first.page (Err why) v

abbrev pub IsFrontUnread : {L : Type 0} → (L → ℕ → Result LogFile LogFileFault → L → Type 0) →
    (L → ℕ → Result LogFile LogFileFault → L → Type 0) → L → L → CheckFault → Type 0
IsFrontUnread reads fronts u v fault = IsLogUnread reads u v fault ⊎ IsBeforeUnread reads fronts u v fault

pub record IsApart (found : Option Saved) (file : LogFile) (fault : CheckFault) : Type 0 where
  pub unjoined : IsUnjoined found file fault
  pub no_gap : (x : Saved) → IsGap found file x → ⊥

abbrev pub IsUnsalvaged : Option Saved → Front → CheckFault → Type 0
IsUnsalvaged found (Whole file) fault = IsApart found file fault
IsUnsalvaged found (Before file before) fault = IsApart found file fault
IsUnsalvaged found (Headless before) fault = (found ≡ None) × (fault ≡ fault_of_log (log.Log before))

pub record IsUncounted {L : Type 0} (lefts : L → ℕ → Result Left LogFileFault → L → Type 0) (u v : L) (from : ℕ)
    (fault : CheckFault) : Type 0 where
  pub why : LogFileFault
  pub fault_is : fault ≡ fault_of_log why
  pub counted : lefts u from (Err why) v

-- the snapshot was found, or that there is none, and then this is reported of the log
pub record IsFrontReported {F L : Type 0} (loads : F → ℕ → Result Saved FileFault → F → Type 0)
    (reads fronts : L → ℕ → Result LogFile LogFileFault → L → Type 0) (s t : F) (u v : L) (fault : CheckFault) :
    Type 0 where
  pub found : Option Saved
  pub loaded : HasFound loads s t found
  pub unread : IsFrontUnread reads fronts u v fault

-- both were read, and then this is reported of them
pub record IsApartReported {F L : Type 0} (loads : F → ℕ → Result Saved FileFault → F → Type 0)
    (reads fronts : L → ℕ → Result LogFile LogFileFault → L → Type 0) (s t : F) (u v : L) (fault : CheckFault) :
    Type 0 where
  pub found : Option Saved
  pub front : Front
  pub loaded : HasFound loads s t found
  pub read : HasFront reads fronts u v front
  pub unsalvaged : IsUnsalvaged found front fault

-- both were put together, and then this is reported of the count
pub record IsCountReported {F L : Type 0} (loads : F → ℕ → Result Saved FileFault → F → Type 0)
    (reads fronts : L → ℕ → Result LogFile LogFileFault → L → Type 0)
    (lefts : L → ℕ → Result Left LogFileFault → L → Type 0) (s t : F) (u v : L) (fault : CheckFault) : Type 0 where
  pub found : Option Saved
  pub front : Front
  pub x : Saved
  pub end : SalvageEnd
  pub from : ℕ
  pub between : L
  pub loaded : HasFound loads s t found
  pub read : HasFront reads fronts u between front
  pub salvaged : IsSalvaged found front x end from
  pub uncounted : IsUncounted lefts between v from fault

abbrev pub IsReadReported : {F L : Type 0} → (F → ℕ → Result Saved FileFault → F → Type 0) →
    (L → ℕ → Result LogFile LogFileFault → L → Type 0) → (L → ℕ → Result LogFile LogFileFault → L → Type 0) →
    (L → ℕ → Result Left LogFileFault → L → Type 0) → F → F → L → L → CheckFault → Type 0
IsReadReported loads reads fronts lefts s t u v fault =
    (IsSnapshotUnread loads s t fault × (v ≡ u))
    ⊎ (IsFrontReported loads reads fronts s t u v fault
    ⊎ (IsApartReported loads reads fronts s t u v fault ⊎ IsCountReported loads reads fronts lefts s t u v fault))

abbrev pub IsMakeReported : {N W : Type 0} → (N → Origin → Setting → Accepted → Result (Unit {0}) SaveFault → N → Type 0) →
    (W → List ℕ → Answer → W → Type 0) → (W → ℕ) → N → N → W → W → Origin → Setting → Accepted → List ℕ → MakeFault →
    Type 0
IsMakeReported makes takes failures a b p q o v accepted line (Save fault) =
    makes a o v accepted (Err fault) b × (q ≡ p)
IsMakeReported makes takes failures a b p q o v accepted line (Output fault) =
    makes a o v accepted (Ok tt) b × HasStopped takes failures p q line fault.written
IsMakeReported makes takes failures a b p q o v accepted line _ = ⊥

-- both were read and counted, and then this is reported of what was made of them
pub record IsMadeReported {F L N W : Type 0} (loads : F → ℕ → Result Saved FileFault → F → Type 0)
    (reads fronts : L → ℕ → Result LogFile LogFileFault → L → Type 0)
    (lefts : L → ℕ → Result Left LogFileFault → L → Type 0)
    (makes : N → Origin → Setting → Accepted → Result (Unit {0}) SaveFault → N → Type 0)
    (takes : W → List ℕ → Answer → W → Type 0) (failures : W → ℕ) (s t : F) (u v : L) (a b : N) (p q : W)
    (book : Identity) (fault : MakeFault) : Type 0 where
  pub x : Saved
  pub end : SalvageEnd
  pub left : Left
  pub salvaged : HasSalvaged loads reads fronts lefts s t u v x end left
  pub reported : IsMakeReported makes takes failures a b p q (salvage_origin book x.origin) x.setup (accepted_in x.list)
      (salvage_line (count_in (accepted_in x.list)) (total_in (accepted_in x.list)) end left) fault

pub record IsUnmade {F L N W : Type 0} (loads : F → ℕ → Result Saved FileFault → F → Type 0)
    (reads fronts : L → ℕ → Result LogFile LogFileFault → L → Type 0)
    (lefts : L → ℕ → Result Left LogFileFault → L → Type 0) (s t : F) (u v : L) (a b : N) (p q : W)
    (fault : MakeFault) : Type 0 where
  pub why : CheckFault
  pub fault_is : fault ≡ Read why
  pub reported : IsReadReported loads reads fronts lefts s t u v why
  pub unmade : b ≡ a
  pub unwritten : q ≡ p

-- What `check` says of a log beside a snapshot, and what a fault says of the calls that were made.
--     log_line file       the line of a log: the place of its first batch, how many batches it has, how many whole pages
--                         with the head, and how many pages behind those aren't empty
--     both_lines s list file
--                         the line of a list of both, and that of the log
--     IsRead most file    some bytes, of which there are no more than so many, are this log
--     HasFound loads s t found
--                         the snapshot's file, which went from s to t, has answered a load with this snapshot, or that
--                         there is no such file
--     IsKnown found h known
--                         what is known beside a log of this head: the snapshot, or where there is none no batches, in
--                         the log's setup
--     HasRead loads reads s t u v known file
--                         so the snapshot's file has answered, and then the log's, which went from u to v, with this log
--     HasJoined .. x      so they have, and the list is that of both
--     IsUnread            what is told of the snapshot's file alone
--     IsJoinTold          what is told of a snapshot and a log that were read
--     IsReadFault         a fault of a snapshot or a log: neither want of memory, nor of the output
--     IsJoinOf found file x
--                         x is what the snapshot, or nothing, and this log have together: the list of both, of the book
--                         that is known of the two; a log goes with it only where it is of a window that isn't closed
--     IsUnjoined found file fault
--                         so the two don't belong together, or there was no memory
--     IsLogTold           what is told of all: a fault of the snapshot's file where that is its answer, and the log isn't
--                         read; a fault of the log's file where that is its answer; that they don't belong together where
--                         both were read, and the join refuses them so
use Rattle.std.specs.Prelude.{◌≡◌, ◌≢◌, ◌⊎◌, ℕ, ◌+◌, ◌≤◌, List, [], ◌∷◌, ◌++◌, length, codes, decimal}
use Rattle.std.specs.Prelude.{Option, Some, None, Result, Ok, Err, Bool, true, ◌&&◌, nat_lt}
use Rattle.batch_store.specs.Setups.{Setting}
use Rattle.batch_store.specs.Accepted.{unfolded}
use Rattle.batch_store.specs.Books.{Listing, accepted_in, listed_in}
use Rattle.snap_file.specs.Origins.{IsOtherBook, no_window, origin, own}
use Rattle.snap_file.specs.Snapshots.{Saved, saved}
use Rattle.snap_file.specs.declared.origin.Origin.{Origin}
use Rattle.snap_file.specs.declared.fault.FileFault.{FileFault}
use Rattle.snap_file.specs.declared.fault.FileFault.TheVariants as file
use Rattle.log_page.specs.Pages.{IsBytes}
use Rattle.log_blocks.specs.declared.fault.LogFault.{LogFault}
use Rattle.log_blocks.specs.declared.fault.LogKind.{LogKind}
use Rattle.log_blocks.specs.declared.fault.LogKind.TheVariants as kind
use Rattle.log_head.specs.declared.head.LogHead.{LogHead}
use Rattle.log_read.specs.Logs.{HoldsLog, batches_in, pages_in}
use Rattle.log_read.specs.declared.file.LogFile.{LogFile}
use Rattle.log_join.specs.Joins.{Joins, RefusesJoin}
use Rattle.log_join.specs.declared.fault.JoinFault.{JoinFault}
use Rattle.log_join.specs.declared.fault.JoinFault.TheVariants as join
use Rattle.snap_report.specs.Checks.{check_line, LeavesOutput}
use Rattle.snap_report.specs.Kept.{IsFileFault, most_bytes}
use Rattle.snap_report.specs.declared.kept_log.LogFileFault.{LogFileFault}
use Rattle.snap_report.specs.declared.kept_log.LogFileFault.TheVariants as log
use Rattle.snap_report.specs.declared.fault.CheckFault.{CheckFault}
use Rattle.snap_report.specs.declared.fault.CheckFault.TheVariants as check

abbrev pub log_line : LogFile → List ℕ
log_line file =
    (codes "log first " ++ decimal file.head.first)
    ++ (codes " batches " ++ decimal (length (batches_in file.blocks.items)))
    ++ (codes " pages " ++ decimal (1 + pages_in file.blocks.items)) ++ (codes " rest " ++ decimal file.rest)
    ++ 10 ∷ []

abbrev pub both_lines : Setting → Listing → LogFile → List ℕ
both_lines s list file = check_line s (accepted_in list) ++ log_line file

pub record IsRead (most : ℕ) (file : LogFile) : Type 0 where
  pub bytes : List ℕ
  pub are_bytes : IsBytes bytes
  pub within : length bytes ≤ most
  pub holds : HoldsLog bytes file

abbrev pub HasFound : {F : Type 0} → (F → ℕ → Result Saved FileFault → F → Type 0) → F → F → Option Saved → Type 0
HasFound loads s t (Some x) = loads s most_bytes (Ok x) t
HasFound loads s t None = loads s most_bytes (Err file.NotFound) t

abbrev pub IsKnown : Option Saved → LogHead → Saved → Type 0
IsKnown (Some x) h known = known ≡ x
IsKnown None h known = known ≡ saved (origin h.identity true) h.setup (listed_in h.setup (unfolded []))

pub record HasRead {F L : Type 0} (loads : F → ℕ → Result Saved FileFault → F → Type 0)
    (reads : L → ℕ → Result LogFile LogFileFault → L → Type 0) (s t : F) (u v : L) (known : Saved) (file : LogFile) :
    Type 0 where
  pub found : Option Saved
  pub loaded : HasFound loads s t found
  pub read : reads u most_bytes (Ok file) v
  pub known_is : IsKnown found file.head known

-- what was read, and the list of both
pub record Checked : Type 0 where
  pub known : Saved
  pub log : LogFile
  pub list : Listing

-- the list of this snapshot and this log, which are of no two books
abbrev pub AreJoined : Saved → LogFile → Listing → Type 0
AreJoined known file list =
    (IsOtherBook known.origin.identity file.head.identity → ⊥)
    × Joins known.setup known.list file.head (batches_in file.blocks.items) list

-- the snapshot and the log don't belong together, for this reason
abbrev pub AreRefused : Saved → LogFile → JoinFault → Type 0
AreRefused known file fault = RefusesJoin known.setup known.origin.identity known.list file.head (batches_in file.blocks.items) fault

abbrev pub HasJoined : {F L : Type 0} → (F → ℕ → Result Saved FileFault → F → Type 0) →
    (L → ℕ → Result LogFile LogFileFault → L → Type 0) → F → F → L → L → Checked → Type 0
HasJoined loads reads s t u v x = HasRead loads reads s t u v x.known x.log × AreJoined x.known x.log x.list

-- want of memory is told as such, and more rows or columns as such
abbrev pub IsLogKind : LogKind → Type 0
IsLogKind kind.Memory = ⊥
IsLogKind _ = Unit {0}

abbrev pub IsLogFault : LogFileFault → Type 0
IsLogFault (log.Log fault) = IsLogKind fault.kind
IsLogFault _ = Unit {0}

abbrev pub IsJoinFault : JoinFault → Type 0
IsJoinFault join.Memory = ⊥
IsJoinFault join.SetupDiffers = ⊥
IsJoinFault _ = Unit {0}

abbrev pub IsReadFault : CheckFault → Type 0
IsReadFault (check.File fault) = IsFileFault fault
IsReadFault (check.Log fault) = IsLogFault fault
IsReadFault check.LogDiffers = Unit {0}
IsReadFault (check.Join fault) = IsJoinFault fault
IsReadFault check.Memory = ⊥
IsReadFault (check.Output fault) = ⊥

abbrev pub IsUnread : {F : Type 0} → (F → ℕ → Result Saved FileFault → F → Type 0) → F → F → CheckFault → Type 0
IsUnread loads s t (check.File fault) = IsFileFault fault × (fault ≢ file.NotFound) × loads s most_bytes (Err fault) t
IsUnread loads s t check.Memory = loads s most_bytes (Err file.Memory) t
IsUnread loads s t _ = ⊥

abbrev pub IsJoinTold : Saved → LogFile → CheckFault → Type 0
IsJoinTold known file check.LogDiffers = AreRefused known file join.SetupDiffers
IsJoinTold known file (check.Join fault) = IsJoinFault fault × AreRefused known file fault
IsJoinTold known file check.Memory = Unit {0}
IsJoinTold known file _ = ⊥

-- a window whose file goes with a log isn't closed: the log may go on
abbrev pub is_open : Origin → Bool
is_open o = o.has_log && nat_lt o.identity.window no_window

pub record IsJoinOf (found : Option Saved) (file : LogFile) (x : Saved) : Type 0 where
  pub known : Saved
  pub known_is : IsKnown found file.head known
  pub joined : AreJoined known file x.list
  pub setup_is : x.setup ≡ known.setup
  pub origin_is : x.origin ≡
      origin (own known.origin.identity file.head.identity known.origin.identity) (is_open known.origin)

pub record IsUnjoined (found : Option Saved) (file : LogFile) (fault : CheckFault) : Type 0 where
  pub known : Saved
  pub known_is : IsKnown found file.head known
  pub told : IsJoinTold known file fault

-- what is told of the log's file, once the snapshot's has answered
abbrev pub IsLogUnread : {L : Type 0} → (L → ℕ → Result LogFile LogFileFault → L → Type 0) → L → L → CheckFault → Type 0
IsLogUnread reads u v (check.Log fault) = IsLogFault fault × reads u most_bytes (Err fault) v
IsLogUnread reads u v check.Memory =
    (fault : LogFault) × (fault.kind ≡ kind.Memory) × reads u most_bytes (Err (log.Log fault)) v
IsLogUnread reads u v _ = ⊥

pub record IsLogFileTold {F L : Type 0} (loads : F → ℕ → Result Saved FileFault → F → Type 0)
    (reads : L → ℕ → Result LogFile LogFileFault → L → Type 0) (s t : F) (u v : L) (fault : CheckFault) : Type 0 where
  pub found : Option Saved
  pub loaded : HasFound loads s t found
  pub told : IsLogUnread reads u v fault

pub record IsRefusalTold {F L : Type 0} (loads : F → ℕ → Result Saved FileFault → F → Type 0)
    (reads : L → ℕ → Result LogFile LogFileFault → L → Type 0) (s t : F) (u v : L) (fault : CheckFault) : Type 0 where
  pub known : Saved
  pub log : LogFile
  pub read : HasRead loads reads s t u v known log
  pub told : IsJoinTold known log fault

abbrev pub IsLogTold : {F L : Type 0} → (F → ℕ → Result Saved FileFault → F → Type 0) →
    (L → ℕ → Result LogFile LogFileFault → L → Type 0) → F → F → L → L → CheckFault → Type 0
IsLogTold loads reads s t u v fault =
    (IsUnread loads s t fault × (v ≡ u))
    ⊎ (IsLogFileTold loads reads s t u v fault
    ⊎ (IsRefusalTold loads reads s t u v fault ⊎ LeavesOutput fault))

-- What `salvage` makes, and what it says.
--     IsGap found file x  the log begins after the end of the snapshot x that was found, and they are of no two books
--     IsSalvaged found front x end from
--                         x is what a snapshot, or nothing, and the front of a log have together: what a start joins of
--                         them, or the snapshot alone where the log begins after its end or has no head. It ends where
--                         the front does, or at the gap; from this page on the log has what isn't in it
--     HasCounted lefts u v end from left
--                         the log's file, which went from u to v, has answered a count of the pages from that one on,
--                         where there is an end
--     salvage_origin book o
--                         of the new book, or of the book and the window that the files say where they say a window; no
--                         log goes with it
use Rattle.std.specs.Prelude.{◌≡◌, ◌⊎◌, ℕ, ◌+◌, ◌==◌, false, if◌then◌else◌, Option, Some, Result, Ok}
use Rattle.snap_file.specs.Origins.{IsOtherBook, no_window, origin}
use Rattle.snap_file.specs.Snapshots.{Saved}
use Rattle.snap_file.specs.declared.fault.FileFault.{FileFault}
use Rattle.snap_file.specs.declared.origin.Identity.{Identity}
use Rattle.snap_file.specs.declared.origin.Origin.{Origin}
use Rattle.log_join.specs.Joins.{HasGap, known_entries}
use Rattle.log_read.specs.Logs.{pages_in}
use Rattle.log_read.specs.declared.file.LogFile.{LogFile}
use Rattle.snap_report.specs.Logged.{HasFound, IsJoinOf}
use Rattle.snap_report.specs.declared.kept_log.LogFileFault.{LogFileFault}
use Rattle.snap_salvage.specs.Found.{HasFront}
use Rattle.snap_salvage.specs.declared.front.Front.{Front}
use Rattle.snap_salvage.specs.declared.front.Front.TheVariants.{Whole, Before, Headless}
use Rattle.snap_salvage.specs.declared.salvage_end.SalvageEnd.{SalvageEnd}
use Rattle.snap_salvage.specs.declared.salvage_end.SalvageEnd.TheVariants as until
use Rattle.snap_salvage.specs.declared.left.Left.{Left}

pub record IsGap (found : Option Saved) (file : LogFile) (x : Saved) : Type 0 where
  pub found_is : found ≡ Some x
  pub same_book : IsOtherBook x.origin.identity file.head.identity → ⊥
  pub gap : HasGap x.setup (known_entries x.list) file.head file.head.first

-- what a snapshot and a log have together, which ends so unless there is a gap
pub record IsJoined (found : Option Saved) (file : LogFile) (why : SalvageEnd) (x : Saved) (end : SalvageEnd) (from : ℕ) :
    Type 0 where
  pub join : IsJoinOf found file x
  pub end_is : end ≡ why
  pub from_is : from ≡ 1 + pages_in file.blocks.items

pub record IsBeforeGap (found : Option Saved) (file : LogFile) (x : Saved) (end : SalvageEnd) (from : ℕ) : Type 0 where
  pub gap : IsGap found file x
  pub end_is : end ≡ until.Gap file.head.first
  pub from_is : from ≡ 1

abbrev pub IsOfBoth : Option Saved → LogFile → SalvageEnd → Saved → SalvageEnd → ℕ → Type 0
IsOfBoth found file why x end from = IsJoined found file why x end from ⊎ IsBeforeGap found file x end from

abbrev pub IsSalvaged : Option Saved → Front → Saved → SalvageEnd → ℕ → Type 0
IsSalvaged found (Whole file) x end from = IsOfBoth found file until.Whole x end from
IsSalvaged found (Before file fault) x end from = IsOfBoth found file (until.Fault fault) x end from
IsSalvaged found (Headless fault) x end from =
    (found ≡ Some x) × (end ≡ until.Fault fault) × (from ≡ 1)

abbrev pub HasCounted : {L : Type 0} → (L → ℕ → Result Left LogFileFault → L → Type 0) → L → L → SalvageEnd → ℕ →
    Left → Type 0
HasCounted lefts u v until.Whole from left = v ≡ u
HasCounted lefts u v (until.Fault fault) from left = lefts u from (Ok left) v
HasCounted lefts u v (until.Gap first) from left = lefts u from (Ok left) v

-- What was read of both files, what both have, where that ends, and what is left out.
pub record HasSalvaged {F L : Type 0} (loads : F → ℕ → Result Saved FileFault → F → Type 0)
    (reads fronts : L → ℕ → Result LogFile LogFileFault → L → Type 0)
    (lefts : L → ℕ → Result Left LogFileFault → L → Type 0) (s t : F) (u v : L) (x : Saved) (end : SalvageEnd)
    (left : Left) : Type 0 where
  pub found : Option Saved
  pub front : Front
  pub from : ℕ
  pub between : L
  pub loaded : HasFound loads s t found
  pub read : HasFront reads fronts u between front
  pub salvaged : IsSalvaged found front x end from
  pub counted : HasCounted lefts between v end from left

abbrev pub salvage_origin : Identity → Origin → Origin
salvage_origin book o = origin (if o.identity.window == no_window then book else o.identity) false

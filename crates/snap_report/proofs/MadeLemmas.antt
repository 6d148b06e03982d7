-- What is known of a file that was read, and of one that is made.
use Rattle.std.proofs.Common.{◌≡◌, ℕ, Option, Some, None, Result, Ok, Err}
use Rattle.snap_file.specs.Snapshots.{Saved}
use Rattle.snap_file.specs.declared.fault.FileFault.{FileFault}
use Rattle.snap_file.specs.declared.fault.FileFault.TheVariants as file
use Rattle.snap_report.specs.Logged.{HasFound, IsUnread}
use Rattle.snap_report.specs.Made.{IsLeft}
use Rattle.snap_report.specs.declared.fault.CheckFault.{CheckFault}
use Rattle.snap_report.specs.declared.fault.CheckFault.TheVariants as check

module _ {F : Type 0} (loads : F → ℕ → Result Saved FileFault → F → Type 0) (s t : F) where
  -- a load that found a snapshot or none is one load
  pub found_left : (found : Option Saved) → HasFound loads s t found → IsLeft loads s t
  found_left (Some x) h = (Ok x, h)
  found_left None h = (Err file.NotFound, h)

  -- and so is one that failed
  pub unread_left : (fault : CheckFault) → IsUnread loads s t fault → IsLeft loads s t
  unread_left (check.File fault) h = (Err fault, h.2)
  unread_left check.Memory h = (Err file.Memory, h)
  unread_left (check.Output fault) h = absurd h
  unread_left (check.Log fault) h = absurd h
  unread_left check.LogDiffers h = absurd h
  unread_left (check.Join fault) h = absurd h

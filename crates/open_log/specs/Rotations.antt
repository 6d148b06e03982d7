-- A log that is begun, and one that is found or not.
use Rattle.std.specs.Prelude.{ℕ, List, [], Ok, Err}
use Rattle.byte_io.specs.declared.fault.DeviceFault.{DeviceFault}
use Rattle.file_folder.specs.Calls.{Done}
use Rattle.log_folder.specs.Names.{LogCall, find, sync_names}
use Rattle.log_file.specs.Logs.{Log}
use Rattle.open_log.specs.declared.fault.FindFault.{FindFault}

-- a log of this head that has no blocks yet
abbrev pub begun : List ℕ → ℕ → Log
begun head first = record { head = head; first = first; blocks = [] }

-- the names were synced, and then the file under the name was opened
pub record HasFound {S : Type 0} (calls : S → LogCall → Done → S → Type 0) (s t : S) : Type 0 where
  pub synced : S
  pub is_synced : calls s sync_names (Ok tt) synced
  pub is_found : calls synced find (Ok tt) t

-- a call failed, the one that is told, and none followed
abbrev pub HasNotFound : {S : Type 0} → (S → LogCall → Done → S → Type 0) → S → S → FindFault → Type 0
HasNotFound calls s t FindFault.Sync = (fault : DeviceFault) × calls s sync_names (Err fault) t
HasNotFound {S} calls s t FindFault.Open =
    (fault : DeviceFault) × (synced : S) × calls s sync_names (Ok tt) synced × calls synced find (Err fault) t

-- What the calls of a log's folder are, by the calls of the system.
--     HasSyncedNames did s beside t
--                     from s to t, the folder of the log was synced, and before it that of the snapshot, if there is one
--     CallOf did s path new beside call answer t
--                     a call that answered Ok made these of the system, where the log's path is `path` and the new file's
--                     `new`; of one that failed, and of how a file is found, nothing is said
use Rattle.std.specs.Prelude.{◌≡◌, ℕ, List, Bool, true, false, Ok, Err, ⊤}
use Rattle.file_folder.specs.Calls.{Done}
use Rattle.log_folder.specs.Names.{LogCall}
use Rattle.log_folder.specs.Names as names
use Rattle.snap_file.specs.System.{SystemCall, make, rename, sync_folder}

pub record HasSyncedNames {S : Type 0} (did : S → SystemCall → S → Type 0) (s : S) (beside : Bool) (t : S) : Type 0 where
  pub first : S
  pub snapshot : beside ≡ true → did s sync_folder first
  pub alone : beside ≡ false → first ≡ s
  pub log : did first sync_folder t

abbrev pub CallOf : {S : Type 0} → (S → SystemCall → S → Type 0) → S → List ℕ → List ℕ → Bool → LogCall → Done → S →
    Type 0
CallOf did s path new beside names.find answer t = ⊤
CallOf did s path new beside names.make_new (Ok done) t = did s (make new) t
CallOf did s path new beside names.make_new (Err fault) t = ⊤
CallOf did s path new beside (names.take_name number) (Ok done) t = did s (rename new path) t
CallOf did s path new beside (names.take_name number) (Err fault) t = ⊤
CallOf did s path new beside names.sync_names (Ok done) t = HasSyncedNames did s beside t
CallOf did s path new beside names.sync_names (Err fault) t = ⊤

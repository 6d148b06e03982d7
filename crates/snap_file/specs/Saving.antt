-- What a save does to a folder, call by call.
--     Fails calls s call t
--                     the call failed, and led from s to t
--     IsFileWritten .. s t name text
--                     from s to t, the file of this name was made and the text written to it whole; no call failed
--     IsFileSynced .. s t name text
--                     and then it was synced
--     HasSaved .. s t path text
--                     and then, under the name `unfinished path`, renamed to the path
--     SaysWhyNotMade .. s t name text fault
--                     such a file wasn't made and synced: the call that the fault names was the last, and the one that
--                     failed, or a write that took nothing of the bytes that it was offered
--     SaysWhy .. s t path text fault
--                     so for a save, which makes no call where there is no memory
use Rattle.std.specs.Prelude.{◌≡◌, ℕ, ◌+◌, List, ◌++◌, codes, Bool, true, false, Option, Some, None, Ok, Err}
use Rattle.byte_io.specs.Streams.{Answer}
use Rattle.byte_io.specs.Writing.{HasTaken, HasStopped}
use Rattle.byte_io.specs.declared.fault.DeviceFault.{DeviceFault}
use Rattle.file_folder.specs.Calls.{FolderCall, Done, create, sync, rename}
use Rattle.snap_file.specs.declared.fault.SaveFault.{SaveFault}
use Rattle.snap_file.specs.declared.fault.SaveFault.TheVariants.{Memory, Create, Write, Sync, Rename}

-- the name of the file that is written before it takes the place of the one under the path
abbrev pub unfinished : List ℕ → List ℕ
unfinished path = path ++ codes ".new"

abbrev pub Fails : {S : Type 0} → (S → FolderCall → Done → S → Type 0) → S → FolderCall → S → Type 0
Fails calls s call t = (fault : DeviceFault) × calls s call (Err fault) t

pub record IsFileWritten {S : Type 0} (calls : S → FolderCall → Done → S → Type 0)
    (takes : S → List ℕ → Answer → S → Type 0) (failures : S → ℕ) (s t : S) (name text : List ℕ) : Type 0 where
  pub made : S
  pub is_made : calls s (create name) (Ok tt) made
  pub none_failed : failures made ≡ failures s
  pub all_taken : HasTaken takes failures made t text

pub record IsFileSynced {S : Type 0} (calls : S → FolderCall → Done → S → Type 0)
    (takes : S → List ℕ → Answer → S → Type 0) (failures : S → ℕ) (s t : S) (name text : List ℕ) : Type 0 where
  pub written : S
  pub is_written : IsFileWritten calls takes failures s written name text
  pub is_synced : calls written sync (Ok tt) t

pub record HasSaved {S : Type 0} (calls : S → FolderCall → Done → S → Type 0)
    (takes : S → List ℕ → Answer → S → Type 0) (failures : S → ℕ) (s t : S) (path text : List ℕ) : Type 0 where
  pub synced : S
  pub file : IsFileSynced calls takes failures s synced (unfinished path) text
  pub is_renamed : calls synced (rename (unfinished path) path) (Ok tt) t

abbrev pub SaysWhyNotMade : {S : Type 0} → (S → FolderCall → Done → S → Type 0) → (S → List ℕ → Answer → S → Type 0) →
    (S → ℕ) → S → S → List ℕ → List ℕ → SaveFault → Type 0
SaysWhyNotMade calls takes failures s t name text Create =
    Fails calls s (create name) t × (failures t ≡ failures s + 1)
SaysWhyNotMade {S} calls takes failures s t name text (Write fault) =
    (made : S) × calls s (create name) (Ok tt) made × (failures made ≡ failures s) ×
    HasStopped takes failures made t text fault.written
SaysWhyNotMade {S} calls takes failures s t name text Sync =
    (written : S) × IsFileWritten calls takes failures s written name text × Fails calls written sync t ×
    (failures t ≡ failures s + 1)
SaysWhyNotMade calls takes failures s t name text _ = ⊥

abbrev pub SaysWhy : {S : Type 0} → (S → FolderCall → Done → S → Type 0) → (S → List ℕ → Answer → S → Type 0) →
    (S → ℕ) → S → S → List ℕ → List ℕ → SaveFault → Type 0
SaysWhy calls takes failures s t path text Memory = t ≡ s
SaysWhy {S} calls takes failures s t path text Rename =
    (synced : S) × IsFileSynced calls takes failures s synced (unfinished path) text ×
    Fails calls synced (rename (unfinished path) path) t × (failures t ≡ failures s + 1)
SaysWhy calls takes failures s t path text fault =
    SaysWhyNotMade calls takes failures s t (unfinished path) text fault

-- the name last created in a folder that makes the one file beside this path
abbrev pub beside : Bool → List ℕ → Option (List ℕ)
beside true path = Some (unfinished path)
beside false path = None

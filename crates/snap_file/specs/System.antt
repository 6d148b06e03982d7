-- The calls of the system by which a new file takes the place of another.
--     SystemCall      a call, with the names or the bytes that it is given
--     IsRenamed did s from to t
--                     from s to t, a folder was opened, the file renamed, and then the folder synced
--     Writes did s parts t
--                     from s to t, these parts were written, one behind the other
--     HasReplaced did s path text
--                     from s on, a file with `.new` behind the path's name was made, the text written to it whole, and
--                     that synced; then a folder was opened, the file renamed to the path, and the folder synced. No
--                     other call was made between
--     CallOf, WriteOf what a call of a folder that makes one file is, by the calls of the system; of one that failed
--                     nothing is said
use Rattle.std.specs.Prelude.{◌≡◌, ℕ, List, [], ◌∷◌, flat_map, Ok, Err, ⊤}
use Rattle.byte_io.specs.Streams.{Answer}
use Rattle.file_folder.specs.Calls as folder
use Rattle.snap_file.specs.Saving.{unfinished}
use Rattle.file_folder.specs.Calls.{FolderCall, Done}

pub data SystemCall : Type 0 where
  make : List ℕ → SystemCall
  write : List ℕ → SystemCall
  sync : SystemCall
  open_folder : List ℕ → SystemCall
  sync_folder : SystemCall
  rename : List ℕ → List ℕ → SystemCall

pub record IsRenamed {S : Type 0} (did : S → SystemCall → S → Type 0) (s : S) (from to : List ℕ) (t : S) : Type 0 where
  pub folder : List ℕ
  pub opened : S
  pub is_opened : did s (open_folder folder) opened
  pub renamed : S
  pub is_renamed : did opened (rename from to) renamed
  pub is_synced : did renamed sync_folder t

abbrev pub Writes : {S : Type 0} → (S → SystemCall → S → Type 0) → S → List (List ℕ) → S → Type 0
Writes did s [] t = s ≡ t
Writes {S} did s (part ∷ parts) t = (next : S) × did s (write part) next × Writes did next parts t

pub record HasReplaced {S : Type 0} (did : S → SystemCall → S → Type 0) (s : S) (path text : List ℕ) : Type 0 where
  pub made : S
  pub is_made : did s (make (unfinished path)) made
  pub parts : List (List ℕ)
  pub written : S
  pub are_written : Writes did made parts written
  pub whole : flat_map (λ part. part) parts ≡ text
  pub synced : S
  pub is_synced : did written sync synced
  pub end : S
  pub renamed : IsRenamed did synced (unfinished path) path end

abbrev pub CallOf : {S : Type 0} → (S → SystemCall → S → Type 0) → S → FolderCall → Done → S → Type 0
CallOf did s (folder.create name) (Ok done) t = did s (make name) t
CallOf did s folder.sync (Ok done) t = did s sync t
CallOf did s (folder.rename from to) (Ok done) t = IsRenamed did s from to t
CallOf did s call (Err fault) t = ⊤

abbrev pub WriteOf : {S : Type 0} → (S → SystemCall → S → Type 0) → S → Answer → S → Type 0
WriteOf did s (Ok bytes) t = did s (write bytes) t
WriteOf did s (Err fault) t = ⊤

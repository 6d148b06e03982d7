-- How a log is started.
--     WasLeft .. disk l block     an earlier life left the file so: it has the log, and of the next block any part
--     MayGoOn .. disk l block     where the file can be read as a log, it was left so
--     GoesOn .. old new l block   what a loss of power leaves of the file at any moment of a start
--     IsJoined s o v bytes list i t
--                                 the bytes are a log of no other book, and a start makes this list of it and the known
--                                 one; the log in use is of that log's identity and setup, or one of the owner's and of
--                                 the start's setup was begun
--     IsList .. list i t          the list that a start gives, whose the log in use is, and of which setup: the known one
--                                 where no log was found and none had to be there, or one so joined
--     FailsToFind .. fault        why nobody knows what stands under the log's name
--     RefusesStart .. fault       why else there is no start
use Rattle.std.specs.Prelude.{◌≡◌, ◌≢◌, ◌⊎◌, ℕ, ◌+◌, ◌^◌, ◌<◌, true, false, List, length, drop, Option, None, Ok}
use Rattle.batch_store.specs.Setups.{Setting}
use Rattle.batch_store.specs.Batches.{Submission}
use Rattle.batch_store.specs.Books.{Listing}
use Rattle.log_blocks.specs.Blocks.{Block, IsBlock, batches_in, place_behind}
use Rattle.log_blocks.specs.Files.{IsSame, recovered}
use Rattle.log_blocks.specs.declared.fault.LogFault.{LogFault}
use Rattle.log_blocks.specs.declared.fault.LogKind.{LogKind}
use Rattle.log_disk.specs.Disk.{LeavesOnly}
use Rattle.log_disk.specs.declared.disk.LogDisk.{Ghosts as Device}
use Rattle.snap_file.specs.Origins.{IsOtherBook, own, unknown}
use Rattle.snap_file.specs.declared.origin.Identity.{Identity}
use Rattle.log_head.specs.Heads.{HasHead}
use Rattle.log_head.specs.declared.head.LogHead.{LogHead}
use Rattle.log_join.specs.Joins.{Joins, RefusesJoin}
use Rattle.log_join.specs.declared.fault.JoinFault.{JoinFault}
use Rattle.log_file.specs.Logs.{Log, IsLog, MayHoldNext, IsReadAs, with_blocks}
use Rattle.log_file.specs.Writer.{IsUnsettled}
use Rattle.file_folder.specs.Calls.{Done}
use Rattle.log_folder.specs.Names.{HasFailedFile, LogCall, failed_calls}
use Rattle.log_folder.specs.declared.fault.RotateFault.{RotateFault}
use Rattle.open_log.specs.Rotations.{HasNotFound}
use Rattle.open_log.specs.declared.fault.FindFault.{FindFault}
use Rattle.log_start.specs.Found.{AreBytesOf, IsRefused, ReadsAs}
use Rattle.log_start.specs.Records.{joined}
use Rattle.log_start.specs.declared.fault.StartFault.{StartFault}
use Rattle.log_start.specs.declared.owner.LogOwner.{LogOwner}

-- ---- the file

pub record WasLeft {D : Type 0} (d : Device D) (disk : D) (l : Log) (block : Block) : Type 0 where
  pub unsettled : IsUnsettled d.written d.may_leave disk l block
  pub is_log : IsLog l
  pub block_is : IsBlock block
  pub places : place_behind l.first l.blocks + batches_in block < 2 ^ 64
  pub head : LogHead
  pub has_head : HasHead l.head head
  pub first_is : l.first ≡ head.first

abbrev pub MayGoOn : {D : Type 0} → Device D → D → Log → Block → Type 0
MayGoOn d disk l block = (head : LogHead) (lists : List (List Submission)) →
    ReadsAs (d.written disk) head lists → WasLeft d disk l block

-- A loss of power leaves the log, and of the next block any part, so that another start may go on with it. Where all
-- that is read is durable, as after a loss of power, it leaves what is read.
pub record GoesOn {D : Type 0} (d : Device D) (old new : D) (l : Log) (block : Block) : Type 0 where
  pub any_moment : LeavesOnly d.moment d.left_since old new (MayHoldNext l block)
  pub same_list : (found : List Block) → recovered l.first (drop 4096 (d.written old)) ≡ Ok found →
      ((left : List ℕ) → d.may_leave old left → IsSame left (d.written old)) →
      LeavesOnly d.moment d.left_since old new (IsReadAs (with_blocks l found))

-- ---- the list

pub record IsJoined (s : Setting) (o : LogOwner) (v : Listing) (bytes : List ℕ) (list : Listing) (i : Identity)
    (t : Setting) : Type 0 where
  pub head : LogHead
  pub lists : List (List Submission)
  pub read : ReadsAs bytes head lists
  pub book : IsOtherBook o.known head.identity → ⊥
  pub joins : Joins s v head (joined lists) list
  pub whose : ((i ≡ head.identity) × (t ≡ head.setup)) ⊎ ((i ≡ own o.known head.identity o.drawn) × (t ≡ s))

-- a folder that tells its files lent one of which these are the bytes
abbrev pub AreOfFile : {D : Type 0} → Device D → Type 0 → (D → Type 0) → List ℕ → Type 0
AreOfFile {D} d folder_tells stored bytes = folder_tells → (disk : D) × stored disk × (bytes ≡ d.written disk)

abbrev pub IsList : {D : Type 0} → Device D → Type 0 → (D → Type 0) → Option ℕ → Setting → LogOwner → Listing →
    Listing → Identity → Setting → Type 0
IsList d folder_tells stored named s o v list i t =
    ((list ≡ v) × (folder_tells → named ≡ None) × (o.must_be_there ≡ false)
    × (i ≡ own o.known unknown.identity o.drawn) × (t ≡ s))
    ⊎ ((bytes : List ℕ) × IsJoined s o v bytes list i t × AreOfFile d folder_tells stored bytes)

-- ---- the refusals

-- how each is told
abbrev pub of_join : JoinFault → StartFault
of_join JoinFault.OtherBook = StartFault.OtherBook
of_join JoinFault.SetupDiffers = StartFault.SetupDiffers
of_join (JoinFault.Gap first) = StartFault.Gap first
of_join JoinFault.LinkDiffers = StartFault.LinkDiffers
of_join (JoinFault.EntryDiffers at) = StartFault.EntryDiffers at
of_join (JoinFault.NotFresh at) = StartFault.NotFresh at
of_join JoinFault.Memory = StartFault.Memory

abbrev pub of_rotate : RotateFault → StartFault
of_rotate RotateFault.Create = StartFault.Create
of_rotate RotateFault.Write = StartFault.Write
of_rotate RotateFault.Sync = StartFault.Sync
of_rotate RotateFault.Rename = StartFault.Rename

-- the file that was found isn't a log, or can't be read
pub record RefusesFile {D : Type 0} (d : Device D) (old : D) (len : ℕ) (fault : StartFault) : Type 0 where
  pub why : LogFault
  pub fault_is : fault ≡ StartFault.Log why
  pub no_memory : why.kind ≢ LogKind.Memory
  pub new : D
  pub refused : IsRefused d old new len why

-- it is one, which doesn't belong to the snapshot's book or to the known list
pub record RefusesBoth {D : Type 0} (d : Device D) (old : D) (len : ℕ) (s : Setting) (o : LogOwner) (v : Listing)
    (fault : StartFault) : Type 0 where
  pub why : JoinFault
  pub fault_is : fault ≡ of_join why
  pub bytes : List ℕ
  pub head : LogHead
  pub lists : List (List Submission)
  pub are_bytes : AreBytesOf d old len bytes
  pub read : ReadsAs bytes head lists
  pub refused : RefusesJoin s o.known v head (joined lists) why

-- A call of it failed while it was settled. It can be settled again, and so can what a loss of power left meanwhile:
-- the log, and of the next block any part.
pub record FailsFile {D : Type 0} (d : Device D) (old : D) (l : Log) (block : Block) (fault : StartFault) : Type 0 where
  pub fault_is : fault ≡ StartFault.Sync
  pub new : D
  pub failed : d.failure_count new ≡ d.failure_count old + 1
  pub unsettled : d.tells old → IsUnsettled d.written d.may_leave new l block
  pub any_moment : d.tells old → LeavesOnly d.moment d.left_since old new (MayHoldNext l block)

-- no log was begun: a call of the folder failed, or one of the new file
pub record FailsNew {D : Type 0} (d : Device D) (old new : ℕ) (fault : StartFault) : Type 0 where
  pub why : RotateFault
  pub fault_is : fault ≡ of_rotate why
  pub failed : new ≡ old + failed_calls why
  pub file : HasFailedFile d.in_doubt why

-- the names weren't synced, or the file not opened
abbrev pub of_find : FindFault → StartFault
of_find FindFault.Sync = StartFault.Sync
of_find FindFault.Open = StartFault.Create

pub record FailsToFind {S : Type 0} (calls : S → LogCall → Done → S → Type 0) (s t : S) (old new : ℕ)
    (fault : StartFault) : Type 0 where
  pub why : FindFault
  pub fault_is : fault ≡ of_find why
  pub not_found : HasNotFound calls s t why
  pub failed : new ≡ old + 1

-- where a file was found
abbrev pub RefusesFound : {D : Type 0} → Device D → D → ℕ → Log → Block → Setting → LogOwner → Listing → ℕ → ℕ
    → StartFault → Type 0
RefusesFound d file len l block s o v old new fault =
    (fault ≡ StartFault.Memory)
    ⊎ (RefusesFile d file len fault
    ⊎ (RefusesBoth d file len s o v fault
    ⊎ (FailsFile d file l block fault
    ⊎ FailsNew d old new fault)))

-- no file is under the name, and one must be there
pub record IsMissing (folder_tells : Type 0) (named : Option ℕ) (o : LogOwner) (fault : StartFault) : Type 0 where
  pub fault_is : fault ≡ StartFault.NotFound
  pub none : folder_tells → named ≡ None
  pub asked : o.must_be_there ≡ true

-- where the names were synced
abbrev pub RefusesStart : {D : Type 0} → Device D → Type 0 → (D → Type 0) → Option ℕ → Log → Block → Setting
    → LogOwner → Listing → ℕ → ℕ → StartFault → Type 0
RefusesStart {D} d folder_tells stored named l block s o v old new fault =
    FailsNew d old new fault
    ⊎ (IsMissing folder_tells named o fault
    ⊎ ((file : D) × (len : ℕ) × (folder_tells → stored file × (len ≡ length (d.written file)))
    × RefusesFound d file len l block s o v old new fault))

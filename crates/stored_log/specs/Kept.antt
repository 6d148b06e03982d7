-- What contracts see of a log on a disk, what it keeps, and what its answers mean.
--     Stored                 its entries, its file and writer, if there are such, and whether it has its name
--     is_failed, room_of, disk_of, number_of
--                            of the log in use, if there is one: whether its disk is in doubt, its room, its disk, and
--                            the number of its file
--     log_in file first      the log that a file with a settled log has
--     IsLogged telling .. disk writer es
--                            the entries of the log on this disk are these, and where such disks tell what they hold it
--                            is settled
--     IsKept .. es o         that, as long as no call has left the disk in doubt, and what its numbers keep to
--     WasSynced .. es        a disk had these entries, all durable
--     HasFailed .. lost      a disk was in doubt, or a file has lost its name
--     IsFull .. o n asked    so many pages more weren't to be had: the log would get longer than logs may be, no more
--                            failures could be counted, or a call has failed from o to n, and what was written for them
--                            is cut off again
--     HasFilled ..           the same of the log in use, if there is one
use Rattle.std.specs.Prelude.{◌≡◌, ◌⊎◌, ℕ, ◌+◌, ◌-◌, ◌*◌, ◌^◌, ◌<◌, ◌≤◌, Bool, true, false, List, [], length, take, drop}
use Rattle.std.specs.Prelude.{Option, Some, None, Result, Ok, Err}
use Rattle.batch_store.specs.declared.verdict.Entry.{Entry}
use Rattle.log_blocks.specs.Blocks.{Block}
use Rattle.log_blocks.specs.Files.{recovered}
use Rattle.log_blocks.specs.declared.fault.LogFault.{LogFault}
use Rattle.log_file.specs.Logs.{Log}
use Rattle.log_file.specs.Writer.{IsSettled}
use Rattle.log_file.specs.declared.writer.LogWriter.{LogWriter}
use Rattle.open_log.specs.declared.log.OpenLog.{OpenLog}
use Rattle.log_start.specs.Records.{IsLogOf}
use Rattle.stored_log.specs.Sizes.{most_pages}

pub record Stored (D : Type 0) : Type 0 where
  pub entries : List Entry
  pub in_use : Option (OpenLog D)
  pub named : Bool

abbrev pub stored : {D : Type 0} → List Entry → Option (OpenLog D) → Bool → Stored D
stored entries in_use named = record { entries = entries; in_use = in_use; named = named }

abbrev pub is_failed : {D : Type 0} → (D → Bool) → Option (OpenLog D) → Bool
is_failed in_doubt None = true
is_failed in_doubt (Some o) = in_doubt o.file.disk

abbrev pub room_of : {D : Type 0} → Option (OpenLog D) → ℕ
room_of None = 0
room_of (Some o) = o.writer.room

abbrev pub blocks_read : Result (List Block) LogFault → List Block
blocks_read (Ok blocks) = blocks
blocks_read (Err fault) = []

abbrev pub log_in : List ℕ → ℕ → Log
log_in file first = record {
  head = take 4096 file;
  first = first;
  blocks = blocks_read (recovered first (drop 4096 file));
}

abbrev pub disk_of : {D : Type 0} → Option (OpenLog D) → Option D
disk_of None = None
disk_of (Some o) = Some o.file.disk

abbrev pub number_of : {D : Type 0} → Option (OpenLog D) → Option ℕ
number_of None = None
number_of (Some o) = Some o.file.number

pub record IsLogged {D : Type 0} (telling : Type 0) (tells : D → Type 0) (written : D → List ℕ)
    (may_leave : D → List ℕ → Type 0) (disk : D) (writer : LogWriter) (es : List Entry) : Type 0 where
  pub log : Log
  pub settled : telling → tells disk × IsSettled written may_leave disk writer log
  pub lists : IsLogOf log es

pub record IsKept {D : Type 0} (telling : Type 0) (tells : D → Type 0) (written : D → List ℕ)
    (may_leave : D → List ℕ → Type 0) (in_doubt : D → Bool) (failure_count : D → ℕ) (es : List Entry) (o : OpenLog D)
    : Type 0 where
  pub logged : in_doubt o.file.disk ≡ false → IsLogged telling tells written may_leave o.file.disk o.writer es
  pub failures : in_doubt o.file.disk ≡ false → failure_count o.file.disk + 1 < 2 ^ 64
  pub pages : o.writer.page + o.writer.room ≤ most_pages
  pub places : o.writer.next ≤ 2 ^ 62 + 170 * o.writer.page

pub record WasSynced {D : Type 0} (telling : Type 0) (tells : D → Type 0) (written : D → List ℕ)
    (may_leave : D → List ℕ → Type 0) (es : List Entry) : Type 0 where
  pub disk : D
  pub writer : LogWriter
  pub logged : IsLogged telling tells written may_leave disk writer es

abbrev pub HasFailed : {D : Type 0} → (D → Bool) → Type 0 → Type 0
HasFailed {D} in_doubt lost = ((disk : D) × (in_doubt disk ≡ true)) ⊎ lost

pub record IsCutBack {D : Type 0} (tells : D → Type 0) (written : D → List ℕ) (failure_count : D → ℕ)
    (o n : OpenLog D) : Type 0 where
  pub failed : failure_count n.file.disk ≡ failure_count o.file.disk + 1
  pub ends : tells o.file.disk → length (written n.file.disk) ≤ 4096 * (n.writer.page + n.writer.room)

abbrev pub IsFull : {D : Type 0} → (D → Type 0) → (D → List ℕ) → (D → ℕ) → OpenLog D → OpenLog D → ℕ → Type 0
IsFull tells written failure_count o n asked =
    (most_pages < o.writer.page + asked)
    ⊎ ((2 ^ 64 - 2 ≤ failure_count o.file.disk) ⊎ IsCutBack tells written failure_count o n)

abbrev pub HasFilled : {D : Type 0} → (D → Type 0) → (D → List ℕ) → (D → ℕ) → Option (OpenLog D) → Option (OpenLog D)
    → ℕ → Type 0
HasFilled tells written failure_count (Some o) (Some n) asked = IsFull tells written failure_count o n asked
HasFilled tells written failure_count (Some o) None asked = ⊥
HasFilled tells written failure_count None n asked = ⊥

-- The first fault of a list of bytes, and what a reader of a source tells of one.
use Rattle.std.specs.Prelude.{◌≡◌, ◌≢◌, ℕ, ◌+◌, ◌*◌, ◌<◌, ◌≤◌, ◌⊎◌, List, [], ◌∷◌, ◌++◌, length, take, drop}
use Rattle.std.specs.Prelude.{Result, Ok, Err}
use Rattle.crc32c.specs.Remainders.{all_ones, after_bytes}
use Rattle.byte_io.specs.Streams.{Answer, Calls, bytes_of_calls}
use Rattle.byte_io.specs.Writing.{EachTakes}
use Rattle.byte_io.specs.declared.fault.DeviceFault.{DeviceFault}
use Rattle.batch_store.specs.Setups.{Setting}
use Rattle.snap_file.specs.Spelling.{IsBytes, IsSnapshot}
use Rattle.snap_file.specs.Table.{Input, Fault, Contents, Reading, fault_at, reading_of}
use Rattle.batch_store.specs.Accepted.{Accepted}
use Rattle.snap_file.specs.declared.origin.Origin.{Origin}
use Rattle.snap_file.specs.declared.fault.SnapFault.{SnapFault}
use Rattle.snap_file.specs.declared.fault.SnapFault.TheVariants.{Read, Memory, BadMark, BadVersion, BadHead}
use Rattle.snap_file.specs.declared.fault.SnapFault.TheVariants.{TotalDiffers, Truncated, TooLong}

-- What is to be read: how many bytes may come, and what a list of bytes is read as.
pub record Task : Type 0 where
  pub max_bytes : ℕ
  pub reads : List ℕ → Result Contents Fault

-- a whole snapshot
abbrev pub snapshot_task : ℕ → Task
snapshot_task max_bytes = record { max_bytes = max_bytes; reads = reading_of }

-- A fault that shows within the bytes is told by those up to it, whatever follows.
abbrev pub KeepsFaults : (List ℕ → Result Contents Fault) → Type 0
KeepsFaults reads = (bytes : List ℕ) (kind : SnapFault) (place : ℕ) → reads bytes ≡ fault_at kind place →
    place ≤ length bytes → (front behind : List ℕ) × (bytes ≡ front ++ behind) × (length front ≡ place) ×
    ((more : List ℕ) → reads (front ++ more) ≡ fault_at kind place)

-- A place is the number of bytes that were read when a fault shows; the end of the bytes counts as one byte more.
-- Two judgements are made at a place, in this order.
pub data Turn : Type 0 where
  at_limit : Turn
  in_field : Turn

abbrev pub turn_number : Turn → ℕ
turn_number at_limit = 0
turn_number in_field = 1

-- Byte number max_bytes + 1 was read.
pub record TooManyBytes (max_bytes : ℕ) (bytes : List ℕ) (place : ℕ) (kind : SnapFault) : Type 0 where
  pub longer : max_bytes < length bytes
  pub place_is : place ≡ max_bytes + 1
  pub kind_is : kind ≡ TooLong

-- A fault of this kind shows at this place and turn.
abbrev pub FaultIn : Turn → Task → List ℕ → ℕ → SnapFault → Type 0
FaultIn at_limit task bytes place kind = TooManyBytes task.max_bytes bytes place kind
FaultIn in_field task bytes place kind = task.reads bytes ≡ fault_at kind place

-- the order of judging: by place, and at one place by turn
abbrev pub moment : ℕ → Turn → ℕ
moment place turn = 2 * place + turn_number turn

-- The first fault of the bytes, at this place.
pub record FirstFaultIn (task : Task) (bytes : List ℕ) (place : ℕ) (kind : SnapFault) : Type 0 where
  pub turn : Turn
  pub stands : FaultIn turn task bytes place kind
  pub least : (t : Turn) (p : ℕ) (k : SnapFault) → FaultIn t task bytes p k → moment place turn ≤ moment p t

-- the same of a snapshot
abbrev pub FaultAt : Turn → ℕ → List ℕ → ℕ → SnapFault → Type 0
FaultAt turn max_bytes bytes place kind = FaultIn turn (snapshot_task max_bytes) bytes place kind

abbrev pub FirstFaultAt : ℕ → List ℕ → ℕ → SnapFault → Type 0
FirstFaultAt max_bytes bytes place kind = FirstFaultIn (snapshot_task max_bytes) bytes place kind

-- What was read has this first fault; one that shows at the end is told only where the source had ended.
pub record IsTold (task : Task) (bytes : List ℕ) (ended : Type 0) (kind : SnapFault) : Type 0 where
  pub place : ℕ
  pub first : FirstFaultIn task bytes place kind
  pub at_end : length bytes < place → ended

-- The source failed, and what was read before bears no fault but Truncated.
pub record IsReadFault (task : Task) (bytes : List ℕ) (failed : Type 0) : Type 0 where
  pub failed_now : failed
  pub none_but : (place : ℕ) (kind : SnapFault) → FirstFaultIn task bytes place kind → kind ≡ Truncated

-- what is told of bytes: neither a failed read nor want of memory
abbrev pub IsOfBytes : SnapFault → Type 0
IsOfBytes kind = (kind ≢ Read) × (kind ≢ Memory)

-- A fault that shows at `shown` is none of the head's, the number of folded batches included, and shows behind this
-- place; at the place itself only where a total differs, since memory for the last cells of the base or of the last
-- batch is taken before that is judged.
pub record ShowsBehind (place shown : ℕ) (kind : SnapFault) : Type 0 where
  pub no_mark : kind ≢ BadMark
  pub no_version : kind ≢ BadVersion
  pub no_head : kind ≢ BadHead
  pub not_before : place ≤ shown
  pub total_alone : shown ≡ place → kind ≡ TotalDiffers

-- the most bytes that are asked for in one call
abbrev pub piece_bytes : ℕ
piece_bytes = 65536

-- The first n bytes are all that the calls before the last one gave, and some of what that one gave.
pub record ReachesLast (answers : List Answer) (n : ℕ) : Type 0 where
  pub before : List Answer
  pub last : List ℕ
  pub answers_are : answers ≡ before ++ Ok last ∷ []
  pub most : length last ≤ piece_bytes
  pub behind : length (bytes_of_calls before) < n

-- Memory was refused behind the head, when so many bytes were judged: what the last call gave was needed for them. Each
-- call gave bytes, so the end of the source was not seen. However the bytes go on, no fault shows in the head, and none
-- up to this place.
pub record IsMemoryFault (task : Task) (answers : List Answer) : Type 0 where
  pub place : ℕ
  pub reaches : ReachesLast answers place
  pub within : place ≤ length (bytes_of_calls answers)
  pub each : EachTakes answers
  pub none_before : (more : List ℕ) (shown : ℕ) (kind : SnapFault) →
      FirstFaultIn task (bytes_of_calls answers ++ more) shown kind → ShowsBehind place shown kind

-- what a fault of a reading says of the calls: for want of memory, that none was made, or where it was refused
abbrev pub Explains : Task → List Answer → Type 0 → Type 0 → SnapFault → Type 0
Explains task answers ended failed Read = IsReadFault task (bytes_of_calls answers) failed
Explains task answers ended failed Memory = (answers ≡ []) ⊎ IsMemoryFault task answers
Explains task answers ended failed kind = IsTold task (bytes_of_calls answers) ended kind

-- what a reader holds: the bytes that came and were not judged yet, how many were judged, the remainder of which their
-- checksum is made, and the most that may come
pub record ReaderState : Type 0 where
  pub pending : List ℕ
  pub taken : ℕ
  pub remainder : ℕ
  pub max_bytes : ℕ

-- So many more bytes are judged, which were the first that were pending.
pub record IsPassed (old new : ReaderState) (n : ℕ) : Type 0 where
  pub pending_is : new.pending ≡ drop n old.pending
  pub taken_is : new.taken ≡ old.taken + n
  pub remainder_is : new.remainder ≡ after_bytes old.remainder (take n old.pending)
  pub limit_is : new.max_bytes ≡ old.max_bytes

-- The calls that led from s to t gave bytes of which the front was judged without a fault; `left` is still to be read.
pub record HasRead {S : Type 0} (gives : S → Result (List ℕ) DeviceFault → S → Type 0) (failures : S → ℕ)
    (task : Task) (s t : S) (reader : ReaderState) (left : Reading) : Type 0 where
  pub answers : List (Result (List ℕ) DeviceFault)
  pub calls : Calls gives s answers t
  pub each : EachTakes answers
  pub front : List ℕ
  pub bytes_are : bytes_of_calls answers ≡ front ++ reader.pending
  pub are_bytes : IsBytes (bytes_of_calls answers)
  pub taken_is : reader.taken ≡ length front
  pub remainder_is : reader.remainder ≡ after_bytes all_ones front
  pub limit_is : reader.max_bytes ≡ task.max_bytes
  pub within : length front ≤ task.max_bytes
  pub few : length answers ≤ task.max_bytes + 1
  pub none_failed : failures t ≡ failures s
  pub resumes : (more : List ℕ) → task.reads (front ++ more) ≡ left (record { before = front; rest = more })
  pub keeps : KeepsFaults task.reads

-- The same, and no call was made for what is still to be read: what was judged reaches into what the last call gave.
pub record HasJudged {S : Type 0} (gives : S → Result (List ℕ) DeviceFault → S → Type 0) (failures : S → ℕ)
    (task : Task) (s t : S) (reader : ReaderState) (left : Reading) : Type 0 where
  pub has_read : HasRead gives failures task s t reader left
  pub reaches : (has_read.answers ≡ []) ⊎ ReachesLast has_read.answers (length has_read.front)

-- The same where n bytes of what is still to be read were asked for.
pub record HasAsked {S : Type 0} (gives : S → Result (List ℕ) DeviceFault → S → Type 0) (failures : S → ℕ)
    (task : Task) (s t : S) (reader : ReaderState) (left : Reading) (n : ℕ) : Type 0 where
  pub has_read : HasRead gives failures task s t reader left
  pub reaches : (has_read.answers ≡ []) ⊎ ReachesLast has_read.answers (length has_read.front + n)

-- What is read behind the head has no fault of the head, and none before a byte of it is there, but that the total
-- differs.
pub record IsBehindHead (left : Reading) : Type 0 where
  pub shows : (input : Input) (kind : SnapFault) (shown : ℕ) → left input ≡ fault_at kind shown →
      ShowsBehind (length input.before) shown kind

-- One more call gave nothing: the source has ended.
pub record HasEnded {S : Type 0} (gives : S → Result (List ℕ) DeviceFault → S → Type 0) (failures : S → ℕ)
    (ended : Type 0) (task : Task) (s t : S) (reader : ReaderState) (left : Reading) : Type 0 where
  pub before : S
  pub has_read : HasRead gives failures task s before reader left
  pub gave : gives before (Ok []) t
  pub at_end : ended
  pub none_failed : failures t ≡ failures before

-- One more call failed.
pub record HasFailed {S : Type 0} (gives : S → Result (List ℕ) DeviceFault → S → Type 0) (failures : S → ℕ)
    (task : Task) (s t : S) (want : ℕ) (left : Reading) : Type 0 where
  pub before : S
  pub reader : ReaderState
  pub has_read : HasRead gives failures task s before reader left
  pub fault : DeviceFault
  pub gave : gives before (Err fault) t
  pub short : length reader.pending < want
  pub room : reader.taken + want ≤ task.max_bytes + 1
  pub failed : failures t ≡ failures before + 1

-- The reading ended with this fault.
pub record Stops {S : Type 0} (gives : S → Result (List ℕ) DeviceFault → S → Type 0) (failures : S → ℕ) (ended : Type 0)
    (task : Task) (s t : S) (kind : SnapFault) : Type 0 where
  pub answers : List (Result (List ℕ) DeviceFault)
  pub calls : Calls gives s answers t
  pub few : length answers ≤ task.max_bytes + 2
  pub explains : Explains task answers ended (failures t ≡ failures s + 1) kind
  pub unfailed : (kind ≡ Read → ⊥) → failures t ≡ failures s

-- The source gave a snapshot of these contents, and ended.
pub record ReadsSnapshot {S : Type 0} (gives : S → Result (List ℕ) DeviceFault → S → Type 0) (failures : S → ℕ)
    (ended : Type 0) (max_bytes : ℕ) (s t : S) (origin : Origin) (setup : Setting) (state : Accepted) : Type 0 where
  pub answers : List (Result (List ℕ) DeviceFault)
  pub calls : Calls gives s answers t
  pub few : length answers ≤ max_bytes + 2
  pub at_end : ended
  pub none_failed : failures t ≡ failures s
  pub snapshot : IsSnapshot max_bytes (bytes_of_calls answers) origin setup state

-- What was found in the file of a log.
--     ReadsAs bytes head lists    the bytes are a log of this head, of blocks of these batches
--     lists_of blocks             the batches of each of the blocks
--     IsFound bytes log           a start takes this of the log that the bytes are
--     HasRead .. old new len bs   a file was read to its end, which gave these bytes
--     IsRefused .. fault          by cases: why a file isn't read
use Rattle.std.specs.Prelude.{◌≡◌, ◌⊎◌, ℕ, ◌+◌, ◌/◌, ◌^◌, ◌<◌, ◌≤◌, List, length, take, drop, map, Ok}
use Rattle.batch_store.specs.Batches.{Submission, values}
use Rattle.batch_store.specs.Books.{HaveDims}
use Rattle.log_disk.specs.Disk.{Elapses}
use Rattle.log_disk.specs.declared.disk.LogDisk.{Ghosts as Device}
use Rattle.log_blocks.specs.Files.{recovered}
use Rattle.log_blocks.specs.declared.fault.LogFault.{LogFault}
use Rattle.log_blocks.specs.declared.fault.LogKind.TheVariants.{Memory, Read, TooLong}
use Rattle.log_head.specs.Heads.{HasHead}
use Rattle.log_head.specs.declared.head.LogHead.{LogHead}
use Rattle.log_batches.specs.Payloads.{block_of}
use Rattle.log_read.specs.Outcomes.{HasLogFault}
use Rattle.log_read.specs.declared.file.Block.{Block}
use Rattle.log_file.specs.Writer.{IsEnd}
use Rattle.log_start.specs.Records.{joined}
use Rattle.log_start.specs.declared.read.FoundLog.{FoundLog}

-- the most bytes that a log's file may have
abbrev pub most_bytes : ℕ
most_bytes = 2 ^ 40

pub record ReadsAs (bytes : List ℕ) (head : LogHead) (lists : List (List Submission)) : Type 0 where
  pub long : 4096 ≤ length bytes
  pub has_head : HasHead (take 4096 bytes) head
  pub read : recovered head.first (drop 4096 bytes) ≡ Ok (map block_of lists)

abbrev pub lists_of : List Block → List (List Submission)
lists_of blocks = map (λ (block : Block). values block.batches.items) blocks

pub record IsFound (bytes : List ℕ) (log : FoundLog) : Type 0 where
  pub lists : List (List Submission)
  pub read : ReadsAs bytes log.head lists
  pub batches_are : values log.batches.items ≡ joined lists
  pub dims : HaveDims log.head.setup.rows log.head.setup.cols (joined lists)
  pub end : IsEnd log.head.first (map block_of lists) log.end
  pub next_is : log.end.next ≡ log.head.first + length (joined lists)
  pub few : log.end.page ≤ 2 ^ 28

-- the file has the same bytes, and a loss of power at any moment from old to new leaves what it might have left before
pub record IsAsBefore {D : Type 0} (d : Device D) (old new : D) : Type 0 where
  pub told : d.tells new
  pub same : d.written new ≡ d.written old
  pub fewer : (left : List ℕ) → d.may_leave new left → d.may_leave old left
  pub time : Elapses (d.moment old) (d.moment new) (d.left_since old) (d.left_since new) (d.may_leave old)

-- of a file that tells them, and has so many, these are the bytes
abbrev pub AreBytesOf : {D : Type 0} → Device D → D → ℕ → List ℕ → Type 0
AreBytesOf d disk len bytes = d.tells disk → len ≡ length (d.written disk) → bytes ≡ d.written disk

abbrev pub IsRefused : {D : Type 0} → Device D → D → D → ℕ → LogFault → Type 0
IsRefused d old new len fault =
    (fault.kind ≡ Memory)
    ⊎ (((fault.kind ≡ Read) × (d.failure_count new ≡ d.failure_count old + 1))
    ⊎ (((fault.kind ≡ TooLong) × (fault.page ≡ most_bytes / 4096) × (d.tells old → most_bytes < len))
    ⊎ ((bytes : List ℕ) × HasLogFault bytes fault × AreBytesOf d old len bytes)))

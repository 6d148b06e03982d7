-- What a writer keeps of its file, and what its calls ask.
use Rattle.std.specs.Prelude.{◌≡◌, ◌⊎◌, ℕ, ◌+◌, ◌*◌, ◌^◌, ◌<◌, ◌≤◌, Bool, false, List, length, drop, slice_index, Ok}
use Rattle.log_blocks.specs.Blocks.{Block, IsBlock, batches_in, log_pages, place_behind}
use Rattle.log_blocks.specs.Files.{next_bytes, recovered}
use Rattle.log_blocks.specs.Scanning.{last_begin}
use Rattle.log_file.specs.Logs.{Log, IsLog, HoldsLog, MayHoldNext, file_of}
use Rattle.log_file.specs.declared.writer.LogWriter.{LogWriter}
use Rattle.log_file.specs.declared.writer.LogEnd.{LogEnd}

-- the file is the log, all of it durable, and the writer stands behind it
pub record IsSettled {D : Type 0} (written : D → List ℕ) (may_leave : D → List ℕ → Type 0) (disk : D)
    (writer : LogWriter) (log : Log) : Type 0 where
  pub first : writer.first ≡ log.first
  pub next : writer.next ≡ place_behind log.first log.blocks
  pub page : writer.page ≡ 1 + length (log_pages log.first log.blocks)
  pub is_log : IsLog log
  pub file : HoldsLog log (written disk)
  pub durable : (left : List ℕ) → may_leave disk left → HoldsLog log left

-- The file has the log, and so has what a loss of power leaves of it; of the next block each may have any part. This
-- holds from the first byte of a block on until its sync, and after a failure, a kill or a loss of power then.
pub record IsUnsettled {D : Type 0} (written : D → List ℕ) (may_leave : D → List ℕ → Type 0) (disk : D)
    (log : Log) (block : Block) : Type 0 where
  pub file : MayHoldNext log block (written disk)
  pub left : (left : List ℕ) → may_leave disk left → MayHoldNext log block left

-- what an append asks: a settled log, and the bytes of the next block
pub record CanAppend {D : Type 0} (written : D → List ℕ) (may_leave : D → List ℕ → Type 0) (disk : D)
    (writer : LogWriter) (log : Log) (block : Block) (bytes : List ℕ) (pages batches : ℕ) : Type 0 where
  pub settled : IsSettled written may_leave disk writer log
  pub block_is : IsBlock block
  pub bytes_are : bytes ≡ next_bytes log.first log.blocks block
  pub pages_are : pages ≡ length block
  pub batches_are : batches ≡ batches_in block

-- no call has failed, and the file's length and the number of batches stay within their limits
pub record HasRoom {D : Type 0} (in_doubt : D → Bool) (failure_count : D → ℕ) (disk : D) (writer : LogWriter)
    (pages batches : ℕ) : Type 0 where
  pub working : in_doubt disk ≡ false
  pub failures : failure_count disk + 1 < 2 ^ 64
  pub room : 4096 * (writer.page + pages) < 2 ^ 63
  pub places : writer.next + batches < 2 ^ 64

-- where blocks end, and where the last of them begins, which is 0 where there is none
pub record IsEnd (first : ℕ) (blocks : List Block) (end : LogEnd) : Type 0 where
  pub next : end.next ≡ place_behind first blocks
  pub page : end.page ≡ 1 + length (log_pages first blocks)
  pub last : end.last ≡ last_begin 1 0 blocks

-- What a settling asks: the file may hold a block behind the log, as after an append that failed or was cut off by a
-- kill or a loss of power, and so may what a loss of power leaves from now on; and the end is that of the blocks that
-- were read.
pub record CanSettle {D : Type 0} (written : D → List ℕ) (may_leave : D → List ℕ → Type 0) (disk : D)
    (first : ℕ) (end : LogEnd) (log : Log) (block : Block) : Type 0 where
  pub unsettled : IsUnsettled written may_leave disk log block
  pub is_log : IsLog log
  pub block_is : IsBlock block
  pub places : place_behind log.first log.blocks + batches_in block < 2 ^ 64
  pub first_is : first ≡ log.first
  pub end_is : (found : List Block) → recovered log.first (drop 4096 (written disk)) ≡ Ok found →
      IsEnd log.first found end

-- the file is the log, with zeros to be written behind it from this byte on
pub record IsBehind {D : Type 0} (written : D → List ℕ) (may_leave : D → List ℕ → Type 0) (disk : D) (at : ℕ)
    (log : Log) : Type 0 where
  pub file : HoldsLog log (written disk)
  pub left : (left : List ℕ) → may_leave disk left → HoldsLog log left
  pub behind : length (file_of log) ≤ at

-- the file has so many bytes, and so has what a loss of power leaves of it
pub record IsLong {D : Type 0} (written : D → List ℕ) (may_leave : D → List ℕ → Type 0) (disk : D)
    (bytes : ℕ) : Type 0 where
  pub file : bytes ≤ length (written disk)
  pub left : (left : List ℕ) → may_leave disk left → bytes ≤ length left

-- each byte of the new file is that of the old one or that of another
pub record Mixes (other old new : List ℕ) : Type 0 where
  pub bytes : (i : ℕ) → (slice_index new i ≡ slice_index old i) ⊎ (slice_index new i ≡ slice_index other i)
  pub longer : length old ≤ length new

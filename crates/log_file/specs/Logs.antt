-- The file of a log: its head page, the pages of its blocks, and 00 behind them.
use Rattle.std.specs.Prelude.{◌≡◌, ◌⊎◌, ℕ, ◌+◌, ◌^◌, ◌<◌, ◌≤◌, List, [], ◌∷◌, ◌++◌, length, take, drop, Ok}
use Rattle.std.specs.List.{AllByRecursion}
use Rattle.log_blocks.specs.Blocks.{Block, IsBlock, place_behind}
use Rattle.log_blocks.specs.Files.{IsSame, Mixed, log_bytes, next_bytes, recovered}

-- a log by its head page, the place of its first batch, and its blocks
pub record Log : Type 0 where
  pub head : List ℕ
  pub first : ℕ
  pub blocks : List Block

-- the log with these blocks in place of its own
abbrev pub with_blocks : Log → List Block → Log
with_blocks log blocks = record { head = log.head; first = log.first; blocks = blocks }

-- the log with one block more
abbrev pub with_next : Log → Block → Log
with_next log block = with_blocks log (log.blocks ++ block ∷ [])

-- what a log may be
pub record IsLog (log : Log) : Type 0 where
  pub head_long : length log.head ≡ 4096
  pub each : AllByRecursion IsBlock log.blocks
  pub places : place_behind log.first log.blocks < 2 ^ 64

-- the bytes of the log
abbrev pub file_of : Log → List ℕ
file_of log = log.head ++ log_bytes log.first log.blocks

-- the file is the log, with 00 behind it
pub record HoldsLog (log : Log) (file : List ℕ) : Type 0 where
  pub long : 4096 ≤ length file
  pub same : IsSame file (file_of log)

-- the file is the log, and has as much of the next block as a loss of power may have left
pub record MayHoldNext (log : Log) (block : Block) (file : List ℕ) : Type 0 where
  pub long : 4096 ≤ length file
  pub mixed : Mixed (length (file_of log)) (next_bytes log.first log.blocks block) (file_of log) file

-- The file is read as the log: its first page is the head, and behind that stand the blocks.
pub record IsReadAs (log : Log) (file : List ℕ) : Type 0 where
  pub long : 4096 ≤ length file
  pub head : take 4096 file ≡ log.head
  pub blocks : recovered log.first (drop 4096 file) ≡ Ok log.blocks

-- the file is read as the log, or as the log with the next block
abbrev pub IsBeforeOrAfter : Log → Block → List ℕ → Type 0
IsBeforeOrAfter log block file = IsReadAs log file ⊎ IsReadAs (with_next log block) file

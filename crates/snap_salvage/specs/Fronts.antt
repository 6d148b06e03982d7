-- The front of the log that bytes are: the longest beginning of whole blocks.
--     Begins others blocks
--                         the first of these blocks are those others
--     IsFront bytes pages file
--                         the first so many pages of these bytes are this log, and each log that a number of first pages
--                         are has no other blocks than the first ones of this log
use Rattle.std.specs.Prelude.{ℕ, ◌*◌, List, length, take}
use Rattle.log_read.specs.Logs.{AreSameBlocks, HoldsLog}
use Rattle.log_read.specs.declared.file.Block.{Block}
use Rattle.log_read.specs.declared.file.LogFile.{LogFile}

abbrev pub Begins : List Block → List Block → Type 0
Begins others blocks = AreSameBlocks others (take (length others) blocks)

pub record IsFront (bytes : List ℕ) (pages : ℕ) (file : LogFile) : Type 0 where
  pub holds : HoldsLog (take (4096 * pages) bytes) file
  pub longest : (n : ℕ) (other : LogFile) → HoldsLog (take (4096 * n) bytes) other →
      Begins other.blocks.items file.blocks.items

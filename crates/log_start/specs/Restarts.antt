-- Starts of a log after a loss of power.
--     IsLeftOf .. since lost found
--                                 the file that is found is what a loss of power has left of another, at this moment or
--                                 later; a second loss leaves nothing else
--     HasOwnHead l                the log's head page is a head, which says the place of its first batch
--     CanTake l block             a start may go on with the log, and this may be its next block
--     HasNextOrNot l block s o v list i t
--                                 the list of a start that has found the log, with this block after it or without
use Rattle.std.specs.Prelude.{◌≡◌, ℕ, ◌+◌, ◌^◌, ◌<◌, List}
use Rattle.batch_store.specs.Setups.{Setting}
use Rattle.batch_store.specs.Books.{Listing}
use Rattle.snap_file.specs.declared.origin.Identity.{Identity}
use Rattle.log_blocks.specs.Blocks.{Block, IsBlock, batches_in, place_behind}
use Rattle.log_disk.specs.declared.disk.LogDisk.{Ghosts as Device}
use Rattle.log_head.specs.Heads.{HasHead}
use Rattle.log_head.specs.declared.head.LogHead.{LogHead}
use Rattle.log_file.specs.Logs.{Log, IsLog, IsBeforeOrAfter}
use Rattle.log_start.specs.Starts.{IsJoined}
use Rattle.log_start.specs.declared.owner.LogOwner.{LogOwner}

pub record IsLeftOf {D : Type 0} (d : Device D) (since : ℕ) (lost found : D) : Type 0 where
  pub told : d.tells found
  pub file : d.left_since lost since (d.written found)
  pub again : (left : List ℕ) → d.may_leave found left → d.left_since lost since left

pub record HasOwnHead (l : Log) : Type 0 where
  pub head : LogHead
  pub has_head : HasHead l.head head
  pub first_is : l.first ≡ head.first

pub record CanTake (l : Log) (block : Block) : Type 0 where
  pub is_log : IsLog l
  pub block_is : IsBlock block
  pub places : place_behind l.first l.blocks + batches_in block < 2 ^ 64
  pub own : HasOwnHead l

abbrev pub HasNextOrNot : Log → Block → Setting → LogOwner → Listing → Listing → Identity → Setting → Type 0
HasNextOrNot l block s o v list i t =
    (bytes : List ℕ) × IsBeforeOrAfter l block bytes × IsJoined s o v bytes list i t

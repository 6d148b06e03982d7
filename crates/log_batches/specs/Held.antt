-- Which batches a block holds.
use Rattle.std.specs.Prelude.{◌≡◌, ◌<◌, ◌≤◌, ◌-◌, ◌^◌, nat_lt, Bool, ◌&&◌, ℕ, List, ◌++◌, length, drop, Ok, Err}
use Rattle.std.specs.List.{AllByRecursion}
use Rattle.byte_io.specs.Streams.{Answer}
use Rattle.batch_store.specs.Setups.{Setting}
use Rattle.batch_store.specs.Batches.{Submission, batch_total}
use Rattle.snap_file.specs.Spelling.{IsBatch}
use Rattle.snap_file.specs.declared.head.Head.{Head}
use Rattle.snap_file.specs.declared.fault.SnapFault.{SnapFault}
use Rattle.log_page.specs.Pages.{is_blank}
use Rattle.log_blocks.specs.declared.fault.LogKind.{LogKind}
use Rattle.log_blocks.specs.Blocks.{Block}
use Rattle.log_batches.specs.Payloads.{payload_bytes, block_of}

-- a batch as a log of this setup can have it: its cells lie within the dimensions, and its total within the limit
pub record IsLogged (s : Setting) (b : Submission) : Type 0 where
  pub batch : IsBatch s.rows s.cols b
  pub fits : batch_total b ≤ s.limit

-- A head by which the batches of a log of its setup are read.
pub record IsFor (h : Head) : Type 0 where
  pub rows : h.setup.rows ≤ 2 ^ 60
  pub cols : h.setup.cols ≤ 2 ^ 60
  pub limit : h.total ≡ h.setup.limit
  pub below : h.setup.limit < 2 ^ 64

-- what a read in memory gives: bytes of the front, and it never fails
abbrev pub gives_front : List ℕ → Answer → List ℕ → Type 0
gives_front old (Ok bytes) new = old ≡ bytes ++ new
gives_front old (Err fault) new = ⊥

-- So many of the bytes were read: the number of these batches, and the batches.
pub record IsTaken (s : Setting) (bytes : List ℕ) (list : List Submission) (n : ℕ) : Type 0 where
  pub some : 0 < length list
  pub few : length list < 2 ^ 64
  pub each : AllByRecursion (IsLogged s) list
  pub rest : List ℕ
  pub taken_is : n ≡ length (payload_bytes list)
  pub whole : bytes ≡ payload_bytes list ++ rest

-- Of no batches are these the first bytes.
abbrev pub HasNoBatches : Setting → List ℕ → Type 0
HasNoBatches s bytes = (list : List Submission) (rest : List ℕ) → 0 < length list → length list < 2 ^ 64 →
    AllByRecursion (IsLogged s) list → bytes ≡ payload_bytes list ++ rest → ⊥

-- what follows the first n bytes fills a page with 00, and no page more
abbrev pub is_filled : ℕ → List ℕ → Bool
is_filled n bytes = nat_lt (length bytes - n) 4072 && is_blank (drop n bytes)

-- what is told of a block where a part of it isn't read
abbrev pub refusal_of : SnapFault → LogKind
refusal_of SnapFault.Memory = LogKind.Memory
refusal_of fault = LogKind.BadBlock

-- The block is made of these batches.
pub record HoldsBatches (s : Setting) (block : Block) (list : List Submission) : Type 0 where
  pub some : 0 < length list
  pub each : AllByRecursion (IsLogged s) list
  pub block_is : block ≡ block_of list

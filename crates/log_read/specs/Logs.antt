-- Which log bytes hold, and what is wrong with those that hold none.
use Rattle.std.specs.Prelude.{◌≡◌, ◌⊎◌, ℕ, ◌+◌, ◌≤◌, List, [], ◌∷◌, ◌++◌, length, take, drop, flat_map, sum_by, Ok, Err}
use Rattle.batch_store.specs.Setups.{Setting}
use Rattle.batch_store.specs.Batches.{Submission, values}
use Rattle.log_blocks.specs.Blocks.{Page, log_pages}
use Rattle.log_blocks.specs.Blocks.{Block as Chunks}
use Rattle.log_blocks.specs.Reading.{read_pages}
use Rattle.log_blocks.specs.Scanning.{used_pages, last_begin}
use Rattle.log_blocks.specs.Files.{pages_of, page_count}
use Rattle.log_blocks.specs.declared.fault.LogFault.{LogFault}
use Rattle.log_blocks.specs.declared.fault.LogKind.TheVariants.{BadBlock}
use Rattle.log_head.specs.Heads.{HasHead}
use Rattle.log_batches.specs.Payloads.{block_of}
use Rattle.log_batches.specs.Held.{HoldsBatches}
use Rattle.log_read.specs.declared.file.Block.{Block}
use Rattle.log_read.specs.declared.file.LogFile.{LogFile}

-- each of these blocks holds its batches, and begins behind the one before it; the first begins at this page
abbrev pub AreBlocks : Setting → ℕ → List Chunks → List Block → Type 0
AreBlocks s page [] [] = Unit {0}
AreBlocks s page [] (block ∷ blocks) = ⊥
AreBlocks s page (chunks ∷ found) [] = ⊥
AreBlocks s page (chunks ∷ found) (block ∷ blocks) =
    (block.page ≡ page) × HoldsBatches s chunks (values block.batches.items)
    × AreBlocks s (page + length chunks) found blocks

-- the batches of blocks, one block behind another, and how many pages the blocks have
abbrev pub batches_in : List Block → List Submission
batches_in blocks = flat_map (λ block. values block.batches.items) blocks

abbrev pub pages_in : List Block → ℕ
pages_in blocks = sum_by (λ block. length (block_of (values block.batches.items))) blocks

-- the pages behind the head
abbrev pub pages_behind : List ℕ → List Page
pages_behind bytes = pages_of 0 (page_count (drop 4096 bytes)) (drop 4096 bytes)

-- The bytes are a log: a head page, the pages of these blocks, and what could be a block in the making.
pub record HoldsLog (bytes : List ℕ) (file : LogFile) : Type 0 where
  pub long : 4096 ≤ length bytes
  pub head : HasHead (take 4096 bytes) file.head
  pub found : List Chunks
  pub read : read_pages file.head.first (pages_behind bytes) ≡ Ok found
  pub blocks : AreBlocks file.head.setup 1 found file.blocks.items
  pub rest_is : file.rest ≡ used_pages (drop (length (log_pages file.head.first found)) (pages_behind bytes))

-- the same batches in the same blocks
abbrev pub AreSameBlocks : List Block → List Block → Type 0
AreSameBlocks [] [] = Unit {0}
AreSameBlocks [] (other ∷ others) = ⊥
AreSameBlocks (block ∷ blocks) [] = ⊥
AreSameBlocks (block ∷ blocks) (other ∷ others) =
    (block.page ≡ other.page) × (values block.batches.items ≡ values other.batches.items) × AreSameBlocks blocks others

pub record IsSameLog (file other : LogFile) : Type 0 where
  pub head : file.head ≡ other.head
  pub blocks : AreSameBlocks file.blocks.items other.blocks.items
  pub rest : file.rest ≡ other.rest

-- The pages before this one are those of blocks that hold batches, and of what could be one in the making. With it they
-- have this fault, whatever follows.
pub record HasBadPage (s : Setting) (first : ℕ) (pages : List Page) (fault : LogFault) : Type 0 where
  pub front : List Page
  pub page : Page
  pub behind : List Page
  pub pages_are : pages ≡ front ++ page ∷ behind
  pub good : List Chunks
  pub blocks : List Block
  pub read : read_pages first front ≡ Ok good
  pub held : AreBlocks s 1 good blocks
  pub refused : (more : List Page) → read_pages first (front ++ page ∷ more) ≡ Err fault

-- Behind the pages of blocks that hold batches stand those of one that holds none.
pub record HasBadBlock (s : Setting) (first : ℕ) (pages : List Page) (fault : LogFault) : Type 0 where
  pub front : List Page
  pub behind : List Page
  pub pages_are : pages ≡ front ++ behind
  pub good : List Chunks
  pub blocks : List Block
  pub block : Chunks
  pub read : read_pages first front ≡ Ok (good ++ block ∷ [])
  pub held : AreBlocks s 1 good blocks
  pub none : (list : List Submission) → HoldsBatches s block list → ⊥
  pub kind_is : fault.kind ≡ BadBlock
  pub page_is : fault.page ≡ last_begin 1 0 (good ++ block ∷ [])

-- what is wrong behind a head: with the pages, or with the batches of a block
abbrev pub HasFaultBehind : Setting → ℕ → List Page → LogFault → Type 0
HasFaultBehind s first pages fault = HasBadPage s first pages fault ⊎ HasBadBlock s first pages fault

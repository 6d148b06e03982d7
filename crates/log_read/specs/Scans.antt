-- How far a log was read.
use Rattle.std.specs.Prelude.{◌≡◌, ◌⊎◌, ℕ, List, [], ◌∷◌, ◌++◌, length}
use Rattle.std.specs.List.{AllByRecursion}
use Rattle.batch_store.specs.Setups.{Setting}
use Rattle.batch_store.specs.Batches.{Submission, values}
use Rattle.log_page.specs.Pages.{chunk_field}
use Rattle.log_blocks.specs.Blocks.{Page, ArePages, FillsPages}
use Rattle.log_blocks.specs.Blocks.{Block as Chunks}
use Rattle.log_blocks.specs.Files.{joined}
use Rattle.log_blocks.specs.Scanning.{HasTaken}
use Rattle.log_blocks.specs.declared.scan.Step.{Step}
use Rattle.log_blocks.specs.declared.scan.Step.TheVariants.{Part, Last, Torn}
use Rattle.log_blocks.specs.declared.fault.LogKind.{LogKind}
use Rattle.log_blocks.specs.declared.fault.LogKind.TheVariants.{Memory, BadBlock}
use Rattle.log_batches.specs.Held.{HoldsBatches}
use Rattle.log_read.specs.Logs.{AreBlocks}
use Rattle.log_read.specs.declared.file.Block.{Block}
use Rattle.log_read.specs.declared.scan.LogScan.{LogScan}

-- These pages of a log whose first batch has this place were taken: the blocks among them hold the batches that were
-- read, and the chunks of the next one are kept.
pub record HasCome (first : ℕ) (log : LogScan) (pages : List Page) : Type 0 where
  pub found : List Chunks
  pub made : Chunks
  pub taken : HasTaken first log.scan found made pages
  pub blocks : AreBlocks log.reader 1 found log.blocks.items
  pub chunks_are : joined made ≡ log.chunks.items
  pub each : AllByRecursion (λ chunk. length chunk ≡ 4072) made
  pub pages_are : ArePages pages

-- One block more was read, which begins at this page and is made of these chunks.
pub record HasRead (s : Setting) (at : ℕ) (chunks : Chunks) (old new : List Block) : Type 0 where
  pub block : Block
  pub is : new ≡ old ++ block ∷ []
  pub page_is : block.page ≡ at
  pub holds : HoldsBatches s chunks (values block.batches.items)

-- what a step does to the chunks that are kept, and to the blocks that were read
abbrev pub Keeps : Setting → ℕ → Page → List ℕ → List ℕ → List Block → List Block → Step → Type 0
Keeps s at page chunks kept old new Part = (kept ≡ chunks ++ chunk_field page) × (new ≡ old)
Keeps s at page chunks kept old new Last = (kept ≡ []) × ((made : Chunks) → joined made ≡ chunks →
    FillsPages (made ++ chunk_field page ∷ []) → HasRead s at (made ++ chunk_field page ∷ []) old new)
Keeps s at page chunks kept old new Torn = (kept ≡ chunks) × (new ≡ old)

-- why a step can't be done: memory, or a block that holds no batches
abbrev pub Refuses : Setting → Page → List ℕ → Step → LogKind → Type 0
Refuses s page chunks Part kind = kind ≡ Memory
Refuses s page chunks Last kind = (kind ≡ Memory) ⊎ ((kind ≡ BadBlock) × ((made : Chunks) (list : List Submission) →
    joined made ≡ chunks → FillsPages (made ++ chunk_field page ∷ []) →
    HoldsBatches s (made ++ chunk_field page ∷ []) list → ⊥))
Refuses s page chunks Torn kind = ⊥

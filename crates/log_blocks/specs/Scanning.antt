-- How far the pages of a log were scanned.
use Rattle.std.specs.Prelude.{◌≡◌, ℕ, ◌+◌, ◌*◌, ◌^◌, ◌<◌, ◌≤◌, Bool, false, not, ◌&&◌, List, [], ◌∷◌, ◌++◌, length, drop, sum_by, Result, Ok, if◌then◌else◌}
use Rattle.std.specs.Int.{w32, to_be_bytes}
use Rattle.log_page.specs.Pages.{kind_of, chunk_field, is_next, is_whole}
use Rattle.log_page.specs.declared.page.PageKind.{PageKind}
use Rattle.log_blocks.specs.Blocks.{Page, Block, batches_in, log_pages, place_behind}
use Rattle.log_blocks.specs.Reading.{read_from, read_pages, ended, with_blocks, used_by}
use Rattle.log_blocks.specs.declared.fault.LogFault.{LogFault}
use Rattle.log_blocks.specs.declared.scan.BlockScan.{BlockScan}
use Rattle.log_blocks.specs.declared.scan.Step.{Step}
use Rattle.log_blocks.specs.declared.scan.Step.TheVariants.{Part, Last, Torn}

-- the page where the last of these blocks begins, where the first of them begins at this one; without a block the other
abbrev pub last_begin : ℕ → ℕ → List Block → ℕ
last_begin page last [] = last
last_begin page last (block ∷ blocks) = last_begin (page + length block) page blocks

-- how many of these pages aren't empty
abbrev pub used_pages : List Page → ℕ
used_pages pages = sum_by (λ p. used_by (kind_of p)) pages

-- what is read of the pages that follow, where a scan has come this far: those of a block of which these chunks were
-- read, or those of a block in the making
abbrev pub goes_on : BlockScan → Block → List Page → Result (List Block) LogFault
goes_on s made rest =
    if s.torn then ended s.place s.page s.made s.pages s.shown rest else read_from s.place s.page made s.pages rest

-- whether a page of this kind is the next whole one of the block that is read
abbrev pub is_next_whole : BlockScan → PageKind → Page → Bool
is_next_whole s kind p = not s.torn && is_whole kind && is_next s.place s.made s.pages p

-- The scan of a log whose first batch has this place has taken these pages: they are the pages of these blocks, those
-- of
-- these chunks of the next one, and, once it is torn, others of it.
pub record HasTaken (first : ℕ) (s : BlockScan) (blocks : List Block) (made : Block) (taken : List Page) : Type 0 where
  pub reads : (rest : List Page) → read_pages first (taken ++ rest) ≡ with_blocks blocks (goes_on s made rest)
  pub places : s.place ≡ place_behind first blocks
  pub begins : s.page ≡ 1 + length (log_pages first blocks)
  pub lasts : s.last ≡ last_begin 1 0 blocks
  pub made_long : s.torn ≡ false → length made ≡ s.made
  pub shown : s.torn ≡ false → s.shown ≡ to_be_bytes w32 s.pages
  pub told : s.torn ≡ false → 0 < length made → batches_in made ≡ s.batches
  pub taken_long : s.page + s.made ≡ 1 + length taken
  pub used : s.used ≡ used_pages (drop (length (log_pages first blocks)) taken)

-- the blocks and the chunks of the next one, once one page more was taken
abbrev pub blocks_after : Step → List Block → Block → Page → List Block
blocks_after Part blocks made p = blocks
blocks_after Last blocks made p = blocks ++ (made ++ chunk_field p ∷ []) ∷ []
blocks_after Torn blocks made p = blocks

abbrev pub made_after : Step → Block → Page → Block
made_after Part made p = made ++ chunk_field p ∷ []
made_after Last made p = []
made_after Torn made p = made

-- The pages are a log of these blocks, and the scan says where they end and what stands behind.
pub record IsScanned (first : ℕ) (pages : List Page) (s : BlockScan) (blocks : List Block) : Type 0 where
  pub read : read_pages first pages ≡ Ok blocks
  pub places : s.place ≡ place_behind first blocks
  pub begins : s.page ≡ 1 + length (log_pages first blocks)
  pub lasts : s.last ≡ last_begin 1 0 blocks
  pub used : s.used ≡ used_pages (drop (length (log_pages first blocks)) pages)

-- the numbers of a scan stay far below what their types hold
pub record IsBounded (s : BlockScan) : Type 0 where
  pub place : s.place ≤ 2 ^ 62 + 170 * s.page
  pub used : s.used ≤ s.made

-- Blocks as pages. Behind its head page a log has the pages of its blocks, one block behind another.
use Rattle.std.specs.Prelude.{◌≡◌, ℕ, ◌+◌, ◌*◌, ◌^◌, ◌<◌, nat_lt, nat_le, Bool, true, ◌&&◌, List, [], ◌∷◌, ◌++◌, length, take, replicate}
use Rattle.std.specs.List.{AllZip, AllByRecursion}
use Rattle.std.specs.Int.{w64, from_be_bytes}
use Rattle.log_page.specs.Pages.{page_of, Lost, IsBytes}

-- a page, and a block by the chunk of each of its pages
abbrev pub Page : Type 0
Page = List ℕ

abbrev pub Block : Type 0
Block = List (List ℕ)

-- how many batches a block says that it has: the number in its first eight bytes
unfoldable pub batches_in : Block → ℕ
batches_in [] = 0
batches_in (chunk ∷ chunks) = from_be_bytes w64 (take 8 chunk)

-- Whether a block can have so many batches: it has one at least, and each of them takes 24 bytes at least.
abbrev pub can_have : ℕ → ℕ → Bool
can_have batches pages = nat_lt 0 batches && nat_le (8 + 24 * batches) (4072 * pages)

unfoldable pub is_sound : Block → Bool
is_sound block = can_have (batches_in block) (length block)

-- the pages of a block of `pages` pages at this place, from page number `page` on
abbrev pub pages_from : ℕ → ℕ → ℕ → Block → List Page
pages_from place page pages [] = []
pages_from place page pages (chunk ∷ chunks) = page_of place page pages chunk ∷ pages_from place (page + 1) pages chunks

abbrev pub block_pages : ℕ → Block → List Page
block_pages place block = pages_from place 0 (length block) block

-- The pages of blocks. The place of a block is that of its first batch in the book, so it rises by the number of
-- batches of the block before.
abbrev pub log_pages : ℕ → List Block → List Page
log_pages place [] = []
log_pages place (block ∷ blocks) = block_pages place block ++ log_pages (place + batches_in block) blocks

-- the place of the batch behind those of these blocks, of which the first has this place
abbrev pub place_behind : ℕ → List Block → ℕ
place_behind place [] = place
place_behind place (block ∷ blocks) = place_behind (place + batches_in block) blocks

-- what a block may be by its size: it has pages, and each chunk fills one
pub record FillsPages (block : Block) : Type 0 where
  pub some : 0 < length block
  pub few : length block < 2 ^ 32
  pub each : AllByRecursion (λ chunk. length chunk ≡ 4072) block

-- what a block of a log may be
pub record IsBlock (block : Block) : Type 0 where
  pub fills : FillsPages block
  pub sound : is_sound block ≡ true

abbrev pub blank_page : Page
blank_page = replicate 4096 0

-- pages that lost bytes
abbrev pub LostPages : List Page → List Page → Type 0
LostPages pages left = AllZip Lost pages left

abbrev pub ArePages : List Page → Type 0
ArePages pages = AllByRecursion (λ page. (length page ≡ 4096) × IsBytes page) pages

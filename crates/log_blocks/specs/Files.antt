-- What stands behind the head page of a file, as pages. Behind its end a file is 00 without end, so that a last page
-- which is cut short is read as if 00 followed, and pages behind the end are blank.
use Rattle.std.specs.Prelude.{◌≡◌, ◌⊎◌, ℕ, zero, suc, ◌+◌, ◌*◌, ◌/◌, ◌<◌, List, [], ◌∷◌, ◌++◌, length, slice_index, Result}
use Rattle.log_blocks.specs.Blocks.{Page, Block, log_pages, block_pages, place_behind}
use Rattle.log_blocks.specs.Reading.{read_pages}
use Rattle.log_blocks.specs.declared.fault.LogFault.{LogFault}

-- two files have the same bytes, up to 00 at their ends
abbrev pub IsSame : List ℕ → List ℕ → Type 0
IsSame file other = (i : ℕ) → slice_index file i ≡ slice_index other i

-- n bytes of a file from this one on
unfoldable pub bytes_from : ℕ → ℕ → List ℕ → List ℕ
bytes_from at zero file = []
bytes_from at (suc n) file = slice_index file at ∷ bytes_from (at + 1) n file

-- n pages of a file from this one on
unfoldable pub pages_of : ℕ → ℕ → List ℕ → List Page
pages_of page zero file = []
pages_of page (suc n) file = bytes_from (4096 * page) 4096 file ∷ pages_of (page + 1) n file

abbrev pub page_count : List ℕ → ℕ
page_count file = (length file + 4095) / 4096

-- the blocks that these bytes hold, which stand behind the head of a file, or the first fault
unfoldable pub recovered : ℕ → List ℕ → Result (List Block) LogFault
recovered first file = read_pages first (pages_of 0 (page_count file) file)

-- pages as bytes
abbrev pub joined : List Page → List ℕ
joined [] = []
joined (page ∷ pages) = page ++ joined pages

-- a log behind its head
abbrev pub log_bytes : ℕ → List Block → List ℕ
log_bytes first blocks = joined (log_pages first blocks)

-- the bytes of a block behind these
abbrev pub next_bytes : ℕ → List Block → Block → List ℕ
next_bytes first blocks block = joined (block_pages (place_behind first blocks) block)

-- The file was that one, and some bytes of these, which were written from this place on, stand in it.
abbrev pub Mixed : ℕ → List ℕ → List ℕ → List ℕ → Type 0
Mixed at bytes old new = (i : ℕ) →
    (slice_index new i ≡ slice_index old i) ⊎
    ((j : ℕ) × (j < length bytes) × (i ≡ at + j) × (slice_index new i ≡ slice_index bytes j))

-- a log of these blocks, and of the next one as much as a loss of power may have left
abbrev pub MayHold : ℕ → List Block → Block → List ℕ → Type 0
MayHold first blocks block file =
    Mixed (length (log_bytes first blocks)) (next_bytes first blocks block) (log_bytes first blocks) file

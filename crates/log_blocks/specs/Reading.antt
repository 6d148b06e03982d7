-- Pages as blocks: what is read of the pages behind the head of a log.
use Rattle.std.specs.Prelude.{◌≡◌, ◌⊎◌, ℕ, ◌+◌, ◌<◌, ◌^◌, ◌==◌, nat_lt, Bool, true, false, ◌&&◌, ◌||◌, if◌then◌else◌, List, [], ◌∷◌, ◌++◌, length, slice_index, Result, Ok, Err}
use Rattle.std.specs.List.{AllByRecursion}
use Rattle.std.specs.Int.{w32, to_be_bytes, from_be_bytes}
use Rattle.log_page.specs.Pages.{kind_of, pages_field, pages_bytes, chunk_field, is_next, is_whole, is_lost_check, is_left_page, Lost, fields_of, fields_in}
use Rattle.log_page.specs.declared.page.PageKind.{PageKind}
use Rattle.log_page.specs.declared.page.PageKind.TheVariants.{Empty, Whole, Short, Spoilt}
use Rattle.log_blocks.specs.Blocks.{Page, Block, batches_in, is_sound, block_pages, log_pages, place_behind, FillsPages, IsBlock}
use Rattle.log_blocks.specs.declared.fault.LogFault.{LogFault}
use Rattle.log_blocks.specs.declared.fault.LogKind.{LogKind}
use Rattle.log_blocks.specs.declared.fault.LogKind.TheVariants.{Damaged, BadBlock}

-- What the pages of a block in the making say of how many it has: the number itself (`pages`), which is 0 as long as no
-- whole page has told it; and its four bytes (`shown`), 00 where none has shown one.

-- a byte that is shown, once another page has shown this one
abbrev pub shown_byte : ℕ → ℕ → ℕ
shown_byte old byte = if byte == 0 then old else byte

abbrev pub shown_with : List ℕ → List ℕ → List ℕ
shown_with shown found =
    shown_byte (slice_index shown 0) (slice_index found 0) ∷ shown_byte (slice_index shown 1) (slice_index found 1) ∷
    shown_byte (slice_index shown 2) (slice_index found 2) ∷ shown_byte (slice_index shown 3) (slice_index found 3) ∷ []

-- whether these bytes may be left of the number, by those that are shown; `free` where the number isn't known
abbrev pub agrees_byte : Bool → ℕ → ℕ → Bool
agrees_byte free old byte = (byte == 0) || (byte == old) || (free && (old == 0))

abbrev pub agrees : Bool → List ℕ → List ℕ → Bool
agrees free shown found =
    agrees_byte free (slice_index shown 0) (slice_index found 0) &&
    agrees_byte free (slice_index shown 1) (slice_index found 1) &&
    agrees_byte free (slice_index shown 2) (slice_index found 2) &&
    agrees_byte free (slice_index shown 3) (slice_index found 3)

-- how many pages the block may have at most
abbrev pub most_byte : ℕ → ℕ
most_byte byte = if byte == 0 then 255 else byte

abbrev pub most_shown : List ℕ → ℕ
most_shown shown = from_be_bytes w32 (most_byte (slice_index shown 0) ∷ most_byte (slice_index shown 1) ∷
    most_byte (slice_index shown 2) ∷ most_byte (slice_index shown 3) ∷ [])

abbrev pub most_pages : ℕ → List ℕ → ℕ
most_pages pages shown = if pages == 0 then most_shown shown else pages

-- whether a page may be left of page number `page` of the block at this place
abbrev pub is_left_part : ℕ → ℕ → ℕ → List ℕ → Page → Bool
is_left_part place page pages shown p =
    agrees (pages == 0) shown (pages_bytes p) &&
    nat_lt page (most_pages pages (shown_with shown (pages_bytes p))) && is_left_page place page p

-- whether page number `page` of a block in the making may be of this kind
abbrev pub is_allowed : PageKind → ℕ → ℕ → ℕ → List ℕ → Page → Bool
is_allowed Empty place page pages shown p = true
is_allowed Short place page pages shown p = is_left_part place page pages shown p
is_allowed Whole place page pages shown p =
    is_next place page pages p && is_lost_check shown (to_be_bytes w32 (pages_field p))
is_allowed Spoilt place page pages shown p = false

-- what is known once a page of this kind has told it, or shown bytes of it
abbrev pub known_pages : PageKind → ℕ → Page → ℕ
known_pages Whole pages p = pages_field p
known_pages Empty pages p = pages
known_pages Short pages p = pages
known_pages Spoilt pages p = pages

abbrev pub known_shown : PageKind → List ℕ → Page → List ℕ
known_shown Whole shown p = to_be_bytes w32 (pages_field p)
known_shown Empty shown p = shown
known_shown Short shown p = shown_with shown (pages_bytes p)
known_shown Spoilt shown p = shown

-- 1 of a page that isn't empty
abbrev pub used_by : PageKind → ℕ
used_by Empty = 0
used_by Whole = 1
used_by Short = 1
used_by Spoilt = 1

-- whether these pages, from page number `page` on, could be one block in the making
unfoldable pub could_be_torn : ℕ → ℕ → ℕ → List ℕ → List Page → Bool
could_be_torn place page pages shown [] = true
could_be_torn place page pages shown (p ∷ ps) =
    is_allowed (kind_of p) place page pages shown p &&
    could_be_torn place (page + 1) (known_pages (kind_of p) pages p) (known_shown (kind_of p) shown p) ps

-- the number of the first page that may not stand there
unfoldable pub damaged_at : ℕ → ℕ → ℕ → List ℕ → List Page → ℕ
damaged_at place page pages shown [] = page
damaged_at place page pages shown (p ∷ ps) =
    if is_allowed (kind_of p) place page pages shown p
    then damaged_at place (page + 1) (known_pages (kind_of p) pages p) (known_shown (kind_of p) shown p) ps
    else page

abbrev pub fault_at : LogKind → ℕ → LogFault
fault_at kind page = record { kind = kind; page = page }

abbrev pub with_block : Block → Result (List Block) LogFault → Result (List Block) LogFault
with_block block (Ok blocks) = Ok (block ∷ blocks)
with_block block (Err fault) = Err fault

-- a block whose pages are whole, from this page of the file on, and what is read behind it
abbrev pub with_whole : ℕ → Block → Result (List Block) LogFault → Result (List Block) LogFault
with_whole from block read = if is_sound block then with_block block read else Err (fault_at BadBlock from)

-- no block more, where what follows could be one in the making
abbrev pub ended : ℕ → ℕ → ℕ → ℕ → List ℕ → List Page → Result (List Block) LogFault
ended place from page pages shown ps =
    if could_be_torn place page pages shown ps
    then Ok []
    else Err (fault_at Damaged (from + damaged_at place page pages shown ps))

-- The blocks of a log from a place on, or the first fault. The first block begins at page `from` of the file; of it
-- the chunks `made` were read, and it has `pages` pages, which is 0 where none was read.
unfoldable pub read_from : ℕ → ℕ → Block → ℕ → List Page → Result (List Block) LogFault
read_from place from made pages [] = Ok []
read_from place from made pages (p ∷ ps) =
    let block = made ++ chunk_field p ∷ [] in
    if is_whole (kind_of p) && is_next place (length made) pages p
    then (if length made + 1 == pages_field p
    then with_whole from block (read_from (place + batches_in block) (from + length block) [] 0 ps)
    else read_from place from block (pages_field p) ps)
    else ended place from (length made) pages (to_be_bytes w32 pages) (p ∷ ps)

-- what is read of the pages behind the head of a log whose first batch has this place
abbrev pub read_pages : ℕ → List Page → Result (List Block) LogFault
read_pages first pages = read_from first 1 [] 0 pages

-- what is read behind these blocks
abbrev pub with_blocks : List Block → Result (List Block) LogFault → Result (List Block) LogFault
with_blocks [] read = read
with_blocks (block ∷ blocks) read = with_block block (with_blocks blocks read)

-- What an append that didn't end may have left of page number `page` of a block at this place that has so many: the page
-- itself; or one that lost bytes, which says what that page says, but for bytes that are 00; or nothing.
abbrev pub IsLeft : PageKind → ℕ → ℕ → ℕ → Page → Type 0
IsLeft Empty place page pages p = Unit {0}
IsLeft Short place page pages p = (page < pages) × Lost (fields_of place page pages) (fields_in p)
IsLeft Whole place page pages p = (page < pages) × (is_next place page pages p ≡ true)
IsLeft Spoilt place page pages p = ⊥

abbrev pub AreLeft : ℕ → ℕ → ℕ → List Page → Type 0
AreLeft place page pages [] = Unit {0}
AreLeft place page pages (p ∷ ps) = IsLeft (kind_of p) place page pages p × AreLeft place (page + 1) pages ps

-- What an append of one block at this place may have left over pages of 00: there is one number of pages, each of the first
-- so many pages is what was left of the block's page of its number, and all after them are empty.
pub record IsTorn (place : ℕ) (ps : List Page) : Type 0 where
  pub pages : ℕ
  pub few : pages < 2 ^ 32
  pub each : AreLeft place 0 pages ps

-- The pages hold these blocks and no other, where the first of them has this place: after their pages comes what an append
-- of the next one may have left, of which a page at least is missing or lost bytes.
pub record Reads (first : ℕ) (pages : List Page) (blocks : List Block) : Type 0 where
  pub rest : List Page
  pub whole : pages ≡ log_pages first blocks ++ rest
  pub each : AllByRecursion IsBlock blocks
  pub torn : IsTorn (place_behind first blocks) rest
  pub unfinished : (block : Block) (more : List Page) → place_behind first blocks < 2 ^ 64 → FillsPages block →
      rest ≡ block_pages (place_behind first blocks) block ++ more → ⊥

-- The pages before this one are those of a log, whole or torn. With it they aren't, whatever follows. The first of all
-- pages has the number `from`.
pub record IsDamaged (first from : ℕ) (pages : List Page) (number : ℕ) : Type 0 where
  pub front : List Page
  pub page : Page
  pub behind : List Page
  pub blocks : List Block
  pub whole : pages ≡ front ++ page ∷ behind
  pub numbered : number ≡ from + length front
  pub read : Reads first front blocks
  pub refused : IsTorn (place_behind first blocks) (read.rest ++ page ∷ []) → ⊥

-- From this page on stand all pages of a block behind those of a log, and the block can't have the batches that it
-- says.
pub record IsBadBlock (first from : ℕ) (pages : List Page) (number : ℕ) : Type 0 where
  pub blocks : List Block
  pub block : Block
  pub behind : List Page
  pub whole : pages ≡ log_pages first blocks ++ (block_pages (place_behind first blocks) block ++ behind)
  pub numbered : number ≡ from + length (log_pages first blocks)
  pub each : AllByRecursion IsBlock blocks
  pub fills : FillsPages block
  pub unsound : is_sound block ≡ false

abbrev pub HasFault : ℕ → ℕ → List Page → LogFault → Type 0
HasFault first from pages fault =
    ((fault.kind ≡ Damaged) × IsDamaged first from pages fault.page)
    ⊎ ((fault.kind ≡ BadBlock) × IsBadBlock first from pages fault.page)

-- What the blocks of a log that was read are.
use Rattle.std.proofs.Common.{◌≡◌, ℕ, zero, suc, ◌+◌, ◌-◌, ◌*◌, ◌^◌, ◌<◌, ◌≤◌, List, [], ◌∷◌, ◌++◌, length}
use Rattle.std.proofs.Common.{take, drop, map, flat_map, get_or, refl, sym, ap, subst, ◌∙◌, length-append, arith}
use Rattle.std.specs.Prelude.{Ok, min}
use Rattle.std.proofs.Common.{inl, inr}
use Rattle.std.proofs.lemmas.Bool.{cases_lt}
use Rattle.std.proofs.lemmas.List.{length-drop, length-map, get_or-drop}
use Rattle.std.specs.Arc.{arc_value}
use Rattle.std.specs.Int.{w64}
use Rattle.std.specs.List.{AllByRecursion}
use Rattle.batch_store.specs.Setups.{Setting}
use Rattle.batch_store.specs.Batches.{Submission, values}
use Rattle.batch_store.specs.Books.{HaveDims}
use Rattle.log_page.specs.Pages.{IsBytes}
use Rattle.log_blocks.specs.Blocks.{Page, IsBlock, ArePages, batches_in, block_pages, log_pages, place_behind}
use Rattle.log_blocks.specs.Blocks.{Block as Chunks}
use Rattle.log_blocks.specs.Files.{bytes_from, pages_of, page_count, recovered}
use Rattle.log_blocks.specs.Reading.{Reads, read_pages}
use Rattle.log_blocks.specs.Scanning.{last_begin}
use Rattle.log_blocks.proofs.Sound.{read_holds}
use Rattle.log_blocks.proofs.Torn.{length-pages_from}
use Rattle.log_head.specs.Heads.{HasHead}
use Rattle.log_head.specs.declared.head.LogHead.{LogHead}
use Rattle.log_batches.specs.Held.{HoldsBatches, IsLogged}
use Rattle.snap_file.specs.Spelling.{number_bytes, batch_bytes, matrix_bytes}
use Rattle.log_batches.specs.Payloads.{block_of}
use Rattle.log_batches.proofs.Chunks.{is_block, length-block}
use Rattle.log_batches.proofs.Sizes.{batches_take}
use Rattle.log_read.specs.Logs.{AreBlocks, HoldsLog, pages_behind}
use Rattle.log_read.proofs.LogFacts.{behind_are, dims_and, length-pages, logged_dims}
use Rattle.log_read.specs.declared.file.Block.{Block}
use Rattle.log_read.specs.declared.file.LogFile.{LogFile}
use Rattle.log_file.specs.Writer.{IsEnd}
use Rattle.log_start.specs.declared.read.FoundLog.{FoundLog}
use Rattle.log_start.specs.Found.{IsFound, lists_of}
use Rattle.log_start.specs.Records.{joined}

-- ---- the batches

pub blocks_dims : (s : Setting) (page : ℕ) (found : List Chunks) (blocks : List Block) →
    AreBlocks s page found blocks → HaveDims s.rows s.cols (joined (lists_of blocks))
blocks_dims s page [] [] are = tt
blocks_dims s page [] (block ∷ blocks) are = absurd are
blocks_dims s page (chunks ∷ found) [] are = absurd are
blocks_dims s page (chunks ∷ found) (block ∷ blocks) are =
    dims_and s.rows s.cols (values block.batches.items) (joined (lists_of blocks))
    (logged_dims s (values block.batches.items) are.1.each)
    (blocks_dims s (page + length chunks) found blocks are.2)

pub blocks_are : (s : Setting) (page : ℕ) (found : List Chunks) (blocks : List Block) →
    AreBlocks s page found blocks → found ≡ map block_of (lists_of blocks)
blocks_are s page [] [] are = refl
blocks_are s page [] (block ∷ blocks) are = absurd are
blocks_are s page (chunks ∷ found) [] are = absurd are
blocks_are s page (chunks ∷ found) (block ∷ blocks) are = λ i.
    are.1.block_is i ∷ blocks_are s (page + length chunks) found blocks are.2 i

-- ---- their end

-- how many pages these blocks have
pub length-log_pages : (place : ℕ) (block : Chunks) (found : List Chunks) →
    length (log_pages place (block ∷ found)) ≡ length block + length (log_pages (place + batches_in block) found)
length-log_pages place block found =
    omega (
      arith,
      length-pages_from place 0 (length block) block,
      length-append (block_pages place block) (log_pages (place + batches_in block) found),
    )

-- the page of the last block, and how many pages that has
pub last_block : (s : Setting) (page last place : ℕ) (found : List Chunks) (blocks : List Block) (d : Block) (n : ℕ) →
    AreBlocks s page found blocks → length blocks ≡ n + 1 →
    ((get_or blocks n d).page ≡ last_begin page last found)
    × ((get_or blocks n d).page + length (block_of (values (get_or blocks n d).batches.items))
    ≡ page + length (log_pages place found))
last_block s page last place found [] d n are long = absurd (omega (arith, long))
last_block s page last place [] (block ∷ blocks) d n are long = absurd are
last_block s page last place (chunks ∷ []) (block ∷ []) d zero are long = (
  are.0,
  omega (arith, are.0, ap (λ (l : Chunks). length l) are.1.block_is, length-log_pages place chunks []),
)
last_block s page last place (chunks ∷ []) (block ∷ []) d (suc n) are long = absurd (omega (arith, long))
last_block s page last place (chunks ∷ next ∷ found) (block ∷ []) d n are long = absurd are.2
last_block s page last place (chunks ∷ []) (block ∷ other ∷ blocks) d n are long = absurd are.2
last_block s page last place (chunks ∷ next ∷ found) (block ∷ other ∷ blocks) d zero are long =
    absurd (omega (arith, long))
last_block s page last place (chunks ∷ next ∷ found) (block ∷ other ∷ blocks) d (suc n) are long =
    let rest = last_block s (page + length chunks) page (place + batches_in chunks) (next ∷ found) (other ∷ blocks) d n
    are.2 (omega (arith, long)) in (
      rest.0,
      omega (arith, rest.1, length-log_pages place chunks (next ∷ found)),
    )

pub no_block : (s : Setting) (page last place : ℕ) (found : List Chunks) (blocks : List Block) →
    AreBlocks s page found blocks → length blocks ≡ 0 →
    (last ≡ last_begin page last found) × (length (log_pages place found) ≡ 0)
no_block s page last place [] [] are none = (refl, refl)
no_block s page last place [] (block ∷ blocks) are none = absurd are
no_block s page last place (chunks ∷ found) [] are none = absurd are
no_block s page last place (chunks ∷ found) (block ∷ blocks) are none = absurd (omega (arith, none))

-- ---- the place behind them

-- a block says how many batches it has
told_batches : (s : Setting) (chunks : Chunks) (list : List Submission) → HoldsBatches s chunks list → IsBlock chunks →
    batches_in chunks ≡ length list
told_batches s chunks list holds is =
    let long = ap (λ (l : Chunks). length l) holds.block_is in
    let pages = length-block list in
    let bytes = length-append (number_bytes w64 (length list)) (flat_map batch_bytes list) in
    let least = batches_take list in
    let fills = is.fills in
    ap batches_in holds.block_is
    ∙ (is_block list holds.some (omega (arith, long, pages, bytes, least, fills.few)) (omega (arith, long, fills.few))).1

pub places_are : (s : Setting) (page place : ℕ) (found : List Chunks) (blocks : List Block) →
    AreBlocks s page found blocks → AllByRecursion IsBlock found →
    place_behind place found ≡ place + length (joined (lists_of blocks))
places_are s page place [] [] are each = omega arith
places_are s page place [] (block ∷ blocks) are each = absurd are
places_are s page place (chunks ∷ found) [] are each = absurd are
places_are s page place (chunks ∷ found) (block ∷ blocks) are each =
    omega (
      arith,
      told_batches s chunks (values block.batches.items) are.1 each.0,
      places_are s (page + length chunks) (place + batches_in chunks) found blocks are.2 each.1,
      length-append (values block.batches.items) (joined (lists_of blocks)),
    )

-- ---- all of it

read_as : (first other : ℕ) (bytes : List ℕ) (found : List Chunks) (lists : List (List Submission)) → first ≡ other →
    found ≡ map block_of lists → read_pages other (pages_of 0 (page_count bytes) bytes) ≡ Ok found →
    recovered first bytes ≡ Ok (map block_of lists)
unfolding recovered
read_as first other bytes found lists same blocks read =
    ap (λ (n : ℕ). read_pages n (pages_of 0 (page_count bytes) bytes)) same ∙ read
    ∙ ap Ok blocks

module _ (bytes : List ℕ) (file : LogFile) (are : IsBytes bytes) (most : length bytes ≤ 2 ^ 40)
    (h : HoldsLog bytes file) where
  reads : Reads file.head.first (pages_behind bytes) h.found
  reads = read_holds file.head.first (pages_behind bytes) h.found (behind_are bytes are) h.read

  pub each_is : AllByRecursion IsBlock h.found
  each_is = let r = reads in r.each

  pub few_pages : length (log_pages file.head.first h.found) < 2 ^ 28
  few_pages =
      let r = reads in
      let whole = ap (λ (l : List Page). length l) r.whole in
      let parts = length-append (log_pages file.head.first h.found) r.rest in
      let count = length-pages 0 (page_count (drop 4096 bytes)) (drop 4096 bytes) in
      let behind = length-drop 4096 bytes in
      omega (arith, whole, parts, count, behind, h.long, most)

  pub is_found : (log : FoundLog) (last page : ℕ) → log.head ≡ file.head →
      values log.batches.items ≡ joined (lists_of file.blocks.items) →
      log.end.next ≡ file.head.first + length log.batches.items → log.end.page ≡ page → log.end.last ≡ last →
      (last ≡ last_begin 1 0 h.found) × (page ≡ 1 + length (log_pages file.head.first h.found)) → IsFound bytes log
  is_found log last page head batches next page_is last_is ends =
      let blocks = blocks_are file.head.setup 1 h.found file.blocks.items h.blocks in
      let places = places_are file.head.setup 1 file.head.first h.found file.blocks.items h.blocks each_is in
      let count = length-map log.batches.items arc_value in
      let long = ap (λ (l : List Submission). length l) batches in
      let first = ap (λ (x : LogHead). x.first) head in
      record {
        lists = lists_of file.blocks.items;
        read = record {
          long = h.long;
          has_head = subst (HasHead (take 4096 bytes)) (sym head) h.head;
          read = read_as log.head.first file.head.first (drop 4096 bytes) h.found (lists_of file.blocks.items) first
              blocks h.read;
        };
        batches_are = batches;
        dims = subst (λ (x : LogHead). HaveDims x.setup.rows x.setup.cols (joined (lists_of file.blocks.items)))
            (sym head) (blocks_dims file.head.setup 1 h.found file.blocks.items h.blocks);
        end = subst (λ (n : ℕ). IsEnd n (map block_of (lists_of file.blocks.items)) log.end) (sym first)
            (subst (λ (l : List Chunks). IsEnd file.head.first l log.end) blocks (record {
              next = omega (arith, next, places, count, long);
              page = page_is ∙ ends.1;
              last = last_is ∙ ends.0;
            }));
        next_is = omega (arith, next, count, long, first);
        few = omega (arith, page_is, ends.1, few_pages);
      }

-- the page behind the last one, as it is summed up
pub page_behind : (page pages n total sum : ℕ) → (pages < 2 ^ 50 → pages ≡ n) → (2 ^ 50 ≤ pages → 2 ^ 50 ≤ n) →
    page + n ≡ 1 + total → total < 2 ^ 40 → sum ≡ min (page + pages) (2 ^ 64 - 1) → sum ≡ 1 + total
page_behind page pages n total sum few many ends most is = elim (cases_lt pages (2 ^ 50)) [
  | inl less ↦ (let e = few less in omega (arith, e, ends, most, is))
  | inr ge ↦ absurd (let e = many ge in omega (arith, e, ends, most))
]

-- What the blocks of a log that was read are: their batches have the setup's dimensions, and their pages stand in the
-- file.
use Rattle.std.proofs.Common.{◌≡◌, ℕ, zero, suc, ◌+◌, ◌*◌, ◌<◌, List, [], ◌∷◌, ◌++◌, length, drop}
use Rattle.std.proofs.Common.{get_or, refl, sym, ap, subst, length-append, arith}
use Rattle.std.proofs.lemmas.List.{length-drop, get_or-drop}
use Rattle.std.proofs.lemmas.List.Sums.{sum_by-cons}
use Rattle.std.specs.List.{AllByRecursion}
use Rattle.batch_store.specs.Setups.{Setting}
use Rattle.batch_store.specs.Batches.{Submission, values}
use Rattle.batch_store.specs.Books.{HaveDims}
use Rattle.log_page.specs.Pages.{IsBytes}
use Rattle.log_blocks.specs.Blocks.{Page, ArePages, log_pages, block_pages, batches_in as told_in}
use Rattle.log_blocks.specs.Blocks.{Block as Chunks}
use Rattle.log_blocks.specs.Files.{bytes_from, pages_of, page_count}
use Rattle.log_blocks.proofs.Sound.{read_holds}
use Rattle.log_blocks.proofs.Torn.{length-pages_from}
use Rattle.log_batches.specs.Held.{IsLogged}
use Rattle.log_batches.specs.Payloads.{block_of}
use Rattle.log_read.specs.Logs.{AreBlocks, HoldsLog, batches_in, pages_in, pages_behind}
use Rattle.log_read.specs.declared.file.Block.{Block}
use Rattle.log_read.specs.declared.file.LogFile.{LogFile}

pub dims_and : (r c : ℕ) (xs ys : List Submission) → HaveDims r c xs → HaveDims r c ys → HaveDims r c (xs ++ ys)
dims_and r c [] ys one more = more
dims_and r c (x ∷ xs) ys one more = (one.0, one.1, dims_and r c xs ys one.2 more)

pub logged_dims : (s : Setting) (list : List Submission) → AllByRecursion (IsLogged s) list →
    HaveDims s.rows s.cols list
logged_dims s [] each = tt
logged_dims s (b ∷ list) each = (each.0.batch.rows_are, each.0.batch.cols_are, logged_dims s list each.1)

blocks_dims : (s : Setting) (page : ℕ) (found : List Chunks) (blocks : List Block) → AreBlocks s page found blocks →
    HaveDims s.rows s.cols (batches_in blocks)
blocks_dims s page [] [] are = tt
blocks_dims s page [] (block ∷ blocks) are = absurd are
blocks_dims s page (chunks ∷ found) [] are = absurd are
blocks_dims s page (chunks ∷ found) (block ∷ blocks) are =
    dims_and s.rows s.cols (values block.batches.items) (batches_in blocks)
    (logged_dims s (values block.batches.items) are.1.each)
    (blocks_dims s (page + length chunks) found blocks are.2)

-- what a join asks of the batches of a log
pub log_dims : (bytes : List ℕ) (file : LogFile) → HoldsLog bytes file →
    HaveDims file.head.setup.rows file.head.setup.cols (batches_in file.blocks.items)
log_dims bytes file h = blocks_dims file.head.setup 1 h.found file.blocks.items h.blocks

blocks_pages : (s : Setting) (page place : ℕ) (found : List Chunks) (blocks : List Block) →
    AreBlocks s page found blocks → pages_in blocks ≡ length (log_pages place found)
blocks_pages s page place [] [] are = refl
blocks_pages s page place [] (block ∷ blocks) are = absurd are
blocks_pages s page place (chunks ∷ found) [] are = absurd are
blocks_pages s page place (chunks ∷ found) (block ∷ blocks) are =
    let behind = place + told_in chunks in
    let pages = block_pages place chunks in
    let sum : pages_in (block ∷ blocks) ≡ length (block_of (values block.batches.items)) + pages_in blocks =
    sum_by-cons (λ (b : Block). length (block_of (values b.batches.items))) block blocks in
    let joined : length (log_pages place (chunks ∷ found)) ≡ length pages + length (log_pages behind found) =
    length-append pages (log_pages behind found) in
    let here : length pages ≡ length chunks = length-pages_from place 0 (length chunks) chunks in
    let is : length chunks ≡ length (block_of (values block.batches.items)) =
    ap (λ (l : Chunks). length l) are.1.block_is in
    let later : pages_in blocks ≡ length (log_pages behind found) =
    blocks_pages s (page + length chunks) behind found blocks are.2 in
    omega arith

length-bytes : (at n : ℕ) (file : List ℕ) → length (bytes_from at n file) ≡ n
unfolding bytes_from
length-bytes at zero file = refl
length-bytes at (suc n) file = ap (λ (k : ℕ). suc k) (length-bytes (at + 1) n file)

few_bytes : (at n : ℕ) (file : List ℕ) → IsBytes file → (i : ℕ) → get_or (bytes_from at n file) i 0 < 256
unfolding bytes_from
few_bytes at zero file are i = omega arith
few_bytes at (suc n) file are zero = are at
few_bytes at (suc n) file are (suc i) = few_bytes (at + 1) n file are i

pub pages_are : (page n : ℕ) (file : List ℕ) → IsBytes file → ArePages (pages_of page n file)
unfolding pages_of
pages_are page zero file are = tt
pages_are page (suc n) file are = (
  (length-bytes (4096 * page) 4096 file, few_bytes (4096 * page) 4096 file are),
  pages_are (page + 1) n file are,
)

pub length-pages : (page n : ℕ) (file : List ℕ) → length (pages_of page n file) ≡ n
unfolding pages_of
length-pages page zero file = refl
length-pages page (suc n) file = ap (λ (k : ℕ). suc k) (length-pages (page + 1) n file)

bytes_behind : (n : ℕ) (bytes : List ℕ) → IsBytes bytes → IsBytes (drop n bytes)
bytes_behind n bytes are i = subst (λ (k : ℕ). k < 256) (sym (get_or-drop n bytes i 0)) (are (n + i))

-- the pages behind the head, as blocks are read of them
pub behind_are : (bytes : List ℕ) → IsBytes bytes → ArePages (pages_behind bytes)
behind_are bytes are = pages_are 0 (page_count (drop 4096 bytes)) (drop 4096 bytes) (bytes_behind 4096 bytes are)

-- the pages of the blocks stand behind the head
pub few_pages : (bytes : List ℕ) (file : LogFile) → IsBytes bytes → HoldsLog bytes file →
    4096 * pages_in file.blocks.items < length bytes
few_pages bytes file are h =
    let pages = pages_behind bytes in
    let first = file.head.first in
    let reads = read_holds first pages h.found (behind_are bytes are) h.read in
    let count : length pages ≡ page_count (drop 4096 bytes) =
    length-pages 0 (page_count (drop 4096 bytes)) (drop 4096 bytes) in
    omega (
      arith,
      blocks_pages file.head.setup 1 first h.found file.blocks.items h.blocks,
      ap (λ (l : List Page). length l) reads.whole,
      length-append (log_pages first h.found) reads.rest,
      count,
      length-drop 4096 bytes,
      h.long,
    )

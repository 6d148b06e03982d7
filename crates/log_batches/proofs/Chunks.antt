-- Bytes as the chunks of pages.
use Rattle.std.proofs.Common.{◌≡◌, ℕ, zero, suc, ◌+◌, ◌-◌, ◌*◌, ◌/◌, ◌^◌, ◌<◌, ◌≤◌, Bool, true, List, [], ◌∷◌, ◌++◌, length, take, drop, get_or, flat_map}
use Rattle.std.proofs.Common.{inl, inr, refl, sym, ap, ◌∙◌, append_assoc, length-append, arith}
use Rattle.std.proofs.lemmas.List.{drop_all, take-take, take-append-drop, get_or-take, get_or-drop, length-take-le, length-drop, take_at, length-take, append-nil}
use Rattle.std.proofs.lemmas.Bool.{cases_lt, and_from, lt-ltb, le-leb}
use Rattle.std.specs.Prelude.{nat_lt, nat_le}
use Rattle.std.specs.List.{AllByRecursion}
use Rattle.std.specs.Int.{w64, from_be_bytes}
use Rattle.std.proofs.lemmas.Nat.{from_be_bytes-to_be_bytes_8}
use Rattle.batch_store.specs.Batches.{Submission}
use Rattle.log_page.specs.Pages.{page_of}
use Rattle.log_page.proofs.PageFields.{PageFits, length-page_of}
use Rattle.log_blocks.specs.Blocks.{Block, IsBlock, batches_in, is_sound, can_have, pages_from, block_pages}
use Rattle.log_blocks.specs.Files.{bytes_from, joined}
use Rattle.log_blocks.proofs.FilePages.{listed_bytes}
use Rattle.snap_file.specs.Spelling.{number_bytes, batch_bytes}
use Rattle.log_batches.specs.Payloads.{payload_bytes, chunks_from, chunk_count, block_of}
use Rattle.log_batches.proofs.Sizes.{length-number, batches_take}

length-bytes_from : (at n : ℕ) (file : List ℕ) → length (bytes_from at n file) ≡ n
unfolding bytes_from
length-bytes_from at zero file = refl
length-bytes_from at (suc n) file = ap (λ (k : ℕ). suc k) (length-bytes_from (at + 1) n file)

pub length-chunks : (i n : ℕ) (bytes : List ℕ) → length (chunks_from i n bytes) ≡ n
unfolding chunks_from
length-chunks i zero bytes = refl
length-chunks i (suc n) bytes = ap (λ (k : ℕ). suc k) (length-chunks (i + 1) n bytes)

pub length-block : (list : List Submission) → length (block_of list) ≡ chunk_count list
unfolding block_of
length-block list = length-chunks 0 (chunk_count list) (payload_bytes list)

chunks_fill : (i n : ℕ) (bytes : List ℕ) → AllByRecursion (λ chunk. length chunk ≡ 4072) (chunks_from i n bytes)
unfolding chunks_from
chunks_fill i zero bytes = tt
chunks_fill i (suc n) bytes = (length-bytes_from (4072 * i) 4072 bytes, chunks_fill (i + 1) n bytes)

same_bytes : (at n : ℕ) (bytes other : List ℕ) →
    ((k : ℕ) → at ≤ k → k < at + n → get_or bytes k 0 ≡ get_or other k 0) →
    bytes_from at n bytes ≡ bytes_from at n other
unfolding bytes_from
same_bytes at zero bytes other same = refl
same_bytes at (suc n) bytes other same =
    let first = same at (omega arith) (omega arith) in
    let rest = same_bytes (at + 1) n bytes other (λ k low high. same k (omega arith) (omega arith)) in
    ap (λ b. b ∷ bytes_from (at + 1) n bytes) first ∙ ap (λ (l : List ℕ). get_or other at 0 ∷ l) rest

-- bytes that are the same are the same chunks
pub chunks_same : (i n : ℕ) (bytes other : List ℕ) →
    ((k : ℕ) → 4072 * i ≤ k → k < 4072 * (i + n) → get_or bytes k 0 ≡ get_or other k 0) →
    chunks_from i n bytes ≡ chunks_from i n other
unfolding chunks_from
chunks_same i zero bytes other same = refl
chunks_same i (suc n) bytes other same =
    let here : bytes_from (4072 * i) 4072 bytes ≡ bytes_from (4072 * i) 4072 other =
    same_bytes (4072 * i) 4072 bytes other (λ k low high. same k low (omega arith)) in
    let later : chunks_from (i + 1) n bytes ≡ chunks_from (i + 1) n other =
    chunks_same (i + 1) n bytes other (λ k low high. same k (omega arith) (omega arith)) in
    ap (λ (c : List ℕ). c ∷ chunks_from (i + 1) n bytes) here
    ∙ ap (λ (l : Block). bytes_from (4072 * i) 4072 other ∷ l) later

-- the bytes of a chunk, as a part of a longer list
pub taken_chunk : (n at : ℕ) (bytes file : List ℕ) → at + n ≤ length bytes →
    ((k : ℕ) → k < at + n → get_or bytes k 0 ≡ get_or file k 0) → take n (drop at bytes) ≡ bytes_from at n file
taken_chunk n at bytes file room same =
    let len = length-drop at bytes in
    listed_bytes n at (take n (drop at bytes)) file (length-take-le n (drop at bytes) (omega arith))
    (λ k lt. get_or-take n (drop at bytes) k 0 lt ∙ get_or-drop at bytes k 0 ∙ same (at + k) (omega arith))

-- one page more, before those that were made
pub page_made : (place left pages : ℕ) (file chunk : List ℕ) (new old : List ℕ) → left < pages →
    chunk ≡ bytes_from (4072 * left) 4072 file →
    new ≡ page_of place left pages chunk ++ old →
    old ≡ joined (pages_from place (left + 1) pages (chunks_from (left + 1) (pages - (left + 1)) file)) →
    new ≡ joined (pages_from place left pages (chunks_from left (pages - left) file))
unfolding chunks_from
page_made place left pages file chunk new old lt is made before =
    let one : pages - left ≡ suc (pages - (left + 1)) = omega arith in
    made
    ∙ ap (λ (c : List ℕ). page_of place left pages c ++ old) is
    ∙ ap (λ (l : List ℕ). page_of place left pages (bytes_from (4072 * left) 4072 file) ++ l) before
    ∙ ap (λ (n : ℕ). joined (pages_from place left pages (chunks_from left n file))) (sym one)

pub none_made : (place pages : ℕ) (file : List ℕ) →
    [] ≡ joined (pages_from place pages pages (chunks_from pages (pages - pages) file))
unfolding chunks_from
none_made place pages file =
    let none : 0 ≡ pages - pages = omega arith in
    ap (λ (n : ℕ). joined (pages_from place pages pages (chunks_from pages n file))) none

-- ---- a block of batches is a block

first_eight : (n : ℕ) (rest : List ℕ) → n < 2 ^ 64 → from_be_bytes w64 (take 8 (number_bytes w64 n ++ rest)) ≡ n
unfolding number_bytes
first_eight n rest fits = from_be_bytes-to_be_bytes_8 n fits

pub bytes_at : (n at : ℕ) (bytes : List ℕ) (k : ℕ) → k < n →
    get_or (bytes_from at n bytes) k 0 ≡ get_or bytes (at + k) 0
unfolding bytes_from
bytes_at zero at bytes k lt = absurd (omega arith)
bytes_at (suc n) at bytes zero lt = ap (λ (i : ℕ). get_or bytes i 0) (omega arith)
bytes_at (suc n) at bytes (suc k) lt =
    bytes_at n (at + 1) bytes k (omega arith) ∙ ap (λ (i : ℕ). get_or bytes i 0) (omega arith)

-- the first bytes of the first chunk are those with which the bytes begin
chunk_begins : (bytes : List ℕ) → 8 ≤ length bytes → take 8 (bytes_from 0 4072 bytes) ≡ take 8 bytes
chunk_begins bytes long =
    listed_bytes 8 0 (take 8 (bytes_from 0 4072 bytes)) bytes
    (length-take-le 8 (bytes_from 0 4072 bytes) (let e = length-bytes_from 0 4072 bytes in omega arith))
    (λ k lt. get_or-take 8 (bytes_from 0 4072 bytes) k 0 lt ∙ bytes_at 4072 0 bytes k (omega arith))
    ∙ sym (listed_bytes 8 0 (take 8 bytes) bytes (length-take-le 8 bytes long) (λ k lt. get_or-take 8 bytes k 0 lt
    ∙ ap (λ (i : ℕ). get_or bytes i 0) (omega arith)))

batches_counted : (n : ℕ) (bytes : List ℕ) → 0 < n →
    batches_in (chunks_from 0 n bytes) ≡ from_be_bytes w64 (take 8 (bytes_from 0 4072 bytes))
unfolding chunks_from batches_in
batches_counted zero bytes some = absurd (omega arith)
batches_counted (suc n) bytes some = refl

counted : (list : List Submission) → length list < 2 ^ 64 → batches_in (block_of list) ≡ length list
unfolding block_of
counted list fits =
    let bytes = payload_bytes list in
    let len = length-append (number_bytes w64 (length list)) (flat_map batch_bytes list) in
    let eight = length-number (length list) in
    batches_counted (chunk_count list) bytes (omega arith)
    ∙ ap (from_be_bytes w64) (chunk_begins bytes (omega arith))
    ∙ first_eight (length list) (flat_map batch_bytes list) fits

sound : (list : List Submission) → 0 < length list → length list < 2 ^ 64 → is_sound (block_of list) ≡ true
unfolding is_sound
sound list some fits =
    let len = length-append (number_bytes w64 (length list)) (flat_map batch_bytes list) in
    let eight = length-number (length list) in
    let take24 = batches_take list in
    let pages = length-block list in
    let n = counted list fits in
    and_from (nat_lt 0 (batches_in (block_of list)))
    (nat_le (8 + 24 * batches_in (block_of list)) (4072 * length (block_of list)))
    (lt-ltb 0 (batches_in (block_of list)) (omega arith))
    (le-leb (8 + 24 * batches_in (block_of list)) (4072 * length (block_of list)) (omega arith))

each_fills : (list : List Submission) → AllByRecursion (λ chunk. length chunk ≡ 4072) (block_of list)
unfolding block_of
each_fills list = chunks_fill 0 (chunk_count list) (payload_bytes list)

pub is_block : (list : List Submission) → 0 < length list → length list < 2 ^ 64 → length (block_of list) < 2 ^ 32 →
    IsBlock (block_of list) × (batches_in (block_of list) ≡ length list)
is_block list some fits few = (
  record {
    fills = record {
      some = let pages = length-block list in
          let len = length-append (number_bytes w64 (length list)) (flat_map batch_bytes list) in
          let eight = length-number (length list) in
          omega arith;
      few = few;
      each = each_fills list;
    };
    sound = sound list some fits;
  },
  counted list fits,
)

-- ---- fronts

pub same_front : (n : ℕ) (new old : List ℕ) → take n new ≡ take n old → (k : ℕ) → k < n →
    get_or new k 0 ≡ get_or old k 0
same_front n new old same k lt =
    sym (get_or-take n new k 0 lt) ∙ ap (λ (l : List ℕ). get_or l k 0) same ∙ get_or-take n old k 0 lt

pub shorter_front : (m n : ℕ) (new old : List ℕ) → m ≤ n → take n new ≡ take n old → take m new ≡ take m old
shorter_front m n new old le same =
    sym (take-take m n new le) ∙ ap (take m) same ∙ take-take m n old le

-- a part that was written in the middle, as long as what stood there
pub front_length : (at n : ℕ) (new old part : List ℕ) → at + n ≤ length old → length part ≡ n →
    take at new ≡ take at old → drop at new ≡ part ++ drop (at + n) old → length new ≡ length old
front_length at n new old part room is front behind =
    let whole = ap length (sym (take-append-drop at new) ∙ ap (λ (l : List ℕ). l ++ drop at new) front
    ∙ ap (λ (l : List ℕ). take at old ++ l) behind) in
    let a = length-append (take at old) (part ++ drop (at + n) old) in
    let b = length-append part (drop (at + n) old) in
    let c = length-take-le at old (omega arith) in
    let d = length-drop (at + n) old in
    omega arith

-- a chunk fills a page behind its first 24 bytes
pub page_chunk : (new old chunk : List ℕ) → length old ≡ 4096 → length chunk ≡ 4072 →
    drop 24 new ≡ chunk ++ drop (24 + length chunk) old → drop 24 new ≡ chunk
page_chunk new old chunk long len behind =
    behind ∙ ap (λ (l : List ℕ). chunk ++ l) (drop_all (24 + length chunk) old (omega arith)) ∙ append-nil chunk

-- a page was sealed in the middle
pub sealed_length : (place number pages : ℕ) (chunk new old : List ℕ) → place < 2 ^ 64 → number < pages →
    pages < 2 ^ 32 →
    4096 * (number + 1) ≤ length old → length chunk ≡ 4072 →
    take (4096 * number) new ≡ take (4096 * number) old →
    drop (4096 * number) new ≡ page_of place number pages chunk ++ drop (4096 * (number + 1)) old →
    length new ≡ length old
sealed_length place number pages chunk new old a b d room len front behind =
    let page_long = length-page_of place number pages chunk
    (record { place_fits = a; within = b; pages_fits = d; chunk_fits = len }) in
    let next : 4096 * (number + 1) ≡ 4096 * number + 4096 = omega arith in
    front_length (4096 * number) 4096 new old (page_of place number pages chunk) (omega arith) page_long front
    (behind ∙ ap (λ (n : ℕ). page_of place number pages chunk ++ drop n old) next)

pub chunk_long : (n at : ℕ) (bytes : List ℕ) → at + n ≤ length bytes → length (take n (drop at bytes)) ≡ n
chunk_long n at bytes room =
    let len = length-drop at bytes in length-take-le n (drop at bytes) (omega arith)

pub all_made : (place left n pages : ℕ) (file : List ℕ) → left ≡ 0 → n ≡ pages →
    joined (pages_from place left pages (chunks_from left n file)) ≡
    joined (pages_from place 0 pages (chunks_from 0 pages file))
all_made place left n pages file none all =
    ap (λ (k : ℕ). joined (pages_from place k pages (chunks_from k n file))) none
    ∙ ap (λ (k : ℕ). joined (pages_from place 0 pages (chunks_from 0 k file))) all

-- all pages of the block of these batches, in front of what stood behind them
pub encoded : (place pages : ℕ) (list : List Submission) (sealed filled rest : List ℕ) →
    pages ≡ length (block_of list) → length sealed ≡ 4096 * pages →
    sealed ≡ joined (pages_from place 0 pages (chunks_from 0 pages filled)) →
    ((i : ℕ) → i < 4072 * pages → get_or filled i 0 ≡ get_or (payload_bytes list) i 0) →
    take (4096 * pages) (sealed ++ rest) ≡ joined (block_pages place (block_of list))
unfolding block_of
encoded place pages list sealed filled rest count long made same =
    let n : pages ≡ chunk_count list = count ∙ length-chunks 0 (chunk_count list) (payload_bytes list) in
    let chunks_are : chunks_from 0 pages filled ≡ block_of list =
    chunks_same 0 pages filled (payload_bytes list) (λ k low high. same k (omega arith))
    ∙ ap (λ (k : ℕ). chunks_from 0 k (payload_bytes list)) n in
    take_at sealed rest (4096 * pages) long
    ∙ made
    ∙ ap (λ (b : Block). joined (pages_from place 0 pages b)) chunks_are
    ∙ ap (λ (k : ℕ). joined (pages_from place 0 k (block_of list))) count

-- a number of pages that is exact below 2^50
pub pages_counted : (result n : ℕ) → (result < 2 ^ 50 → result ≡ n) → (2 ^ 50 ≤ result → 2 ^ 50 ≤ n) → n < 2 ^ 32 →
    result ≡ n
pages_counted result n few many small = elim (cases_lt result (2 ^ 50)) [
  | inl lt ↦ few lt
  | inr le ↦ let more = many le in absurd (omega arith)
]

-- A block as the bytes of its chunks, and as the batches that it is made of.
use Rattle.std.proofs.Common.{◌≡◌, ℕ, zero, suc, ◌+◌, ◌-◌, ◌*◌, ◌/◌, ◌^◌, ◌<◌, ◌≤◌, Bool, true, false, List, [], ◌∷◌, ◌++◌, length, take, drop, get_or, flat_map, replicate}
use Rattle.std.proofs.Common.{refl, sym, ap, subst, ◌∙◌, append_assoc, length-append, arith, inl, inr}
use Rattle.std.proofs.lemmas.List.{append-nil, append_cancel_left, get_or_append_left, get_or-append_right, get_or-append-add, get_or_past, get_or-replicate, length-replicate, length-drop, drop_at}
use Rattle.std.proofs.lemmas.Bool.{cases_lt, cases_Bool, lt-ltb, ltb-true}
use Rattle.std.proofs.lemmas.Bool.Decides.{nat_tests}
use Rattle.std.proofs.lemmas.List.Folds.{list_all_at}
use Rattle.std.specs.Prelude.{◌==◌, nat_lt, ◌&&◌}
use Rattle.std.specs.List.{AllByRecursion, list_all}
use Rattle.batch_store.specs.Batches.{Submission}
use Rattle.batch_store.specs.Setups.{Setting}
use Rattle.snap_file.specs.Spelling.{number_bytes, batch_bytes}
use Rattle.snap_file.specs.declared.head.Head.{Head}
use Rattle.log_page.specs.Pages.{is_blank}
use Rattle.log_blocks.specs.Blocks.{Block, FillsPages}
use Rattle.log_blocks.specs.Files.{bytes_from, joined}
use Rattle.log_blocks.proofs.FilePages.{listed_bytes}
use Rattle.log_batches.specs.Payloads.{payload_bytes, chunks_from, chunk_count, block_of}
use Rattle.log_batches.specs.Held.{IsFor, IsLogged, IsTaken, HasNoBatches, HoldsBatches, is_filled}
use Rattle.log_batches.proofs.Chunks.{chunks_same, length-block, length-chunks}
use Rattle.log_batches.proofs.Sizes.{length-payload, batches_take}
use Rattle.log_batches.proofs.Taking.{one_list}

-- ---- the chunks of a block are those of its bytes

part_is : (at n : ℕ) (front bytes behind : List ℕ) → length front ≡ at → length bytes ≡ n →
    bytes_from at n (front ++ (bytes ++ behind)) ≡ bytes
part_is at n front bytes behind start len = sym (listed_bytes n at bytes (front ++ (bytes ++ behind)) len
    (λ k lt. sym (ap (λ (i : ℕ). get_or (front ++ (bytes ++ behind)) (i + k) 0) (sym start)
    ∙ get_or-append-add front (bytes ++ behind) k 0
    ∙ get_or_append_left bytes behind 0 k (omega arith))))

own_chunks_from : (i : ℕ) (front : List ℕ) (block : Block) → length front ≡ 4072 * i →
    AllByRecursion (λ chunk. length chunk ≡ 4072) block → chunks_from i (length block) (front ++ joined block) ≡ block
unfolding chunks_from
own_chunks_from i front [] start each = refl
own_chunks_from i front (chunk ∷ block) start each =
    let here = part_is (4072 * i) 4072 front chunk (joined block) start each.0 in
    let moved : length (front ++ chunk) ≡ 4072 * (i + 1) = let e = length-append front chunk in
    let c = each.0 in omega arith in
    let later = own_chunks_from (i + 1) (front ++ chunk) block moved each.1 in
    ap (λ (c : List ℕ). c ∷ chunks_from (i + 1) (length block) (front ++ (chunk ++ joined block))) here
    ∙ ap (λ (l : List ℕ). chunk ∷ chunks_from (i + 1) (length block) l) (sym (append_assoc front chunk (joined block)))
    ∙ ap (λ (l : Block). chunk ∷ l) later

own_chunks : (block : Block) → AllByRecursion (λ chunk. length chunk ≡ 4072) block →
    chunks_from 0 (length block) (joined block) ≡ block
own_chunks block each = own_chunks_from 0 [] block refl each

length-joined : (block : Block) → AllByRecursion (λ chunk. length chunk ≡ 4072) block →
    length (joined block) ≡ 4072 * length block
length-joined [] each = refl
length-joined (chunk ∷ block) each =
    let e = length-append chunk (joined block) in
    let c = each.0 in
    let r = length-joined block each.1 in
    omega arith

-- ---- bytes and 00 behind them

blank_zeros : (l : List ℕ) → is_blank l ≡ true → (i : ℕ) → get_or l i 0 ≡ 0
blank_zeros l e i = elim (cases_lt i (length l)) [
  | inl lt ↦ elim (cases_Bool (get_or l i 0 == 0)) [
    | inl yes_zero ↦ is_zero (get_or l i 0) yes_zero
    | inr not_zero ↦ absurd (wrong (sym e ∙ list_all_at (λ byte. byte == 0) l i 0 lt not_zero))
  ]
  | inr le ↦ get_or_past l i 0 le
]
  where
    wrong : true ≡ false → ⊥
    wrong h = cc

    is_zero : (n : ℕ) → (n == 0) ≡ true → n ≡ 0
    is_zero n h = grind (arith, nat_tests)

same_with_zeros : (bytes zeros : List ℕ) → ((i : ℕ) → get_or zeros i 0 ≡ 0) → (i : ℕ) →
    get_or (bytes ++ zeros) i 0 ≡ get_or bytes i 0
same_with_zeros bytes zeros none i = elim (cases_lt i (length bytes)) [
  | inl lt ↦ get_or_append_left bytes zeros 0 i lt
  | inr le ↦
      get_or-append_right bytes zeros (length bytes) i 0 refl le ∙ none (i - length bytes)
      ∙ sym (get_or_past bytes i 0 le)
]

-- a block whose bytes are those of these batches and 00 behind them, less than a page
block_made : (block : Block) (list : List Submission) (zeros : List ℕ) →
    AllByRecursion (λ chunk. length chunk ≡ 4072) block → joined block ≡ payload_bytes list ++ zeros →
    ((i : ℕ) → get_or zeros i 0 ≡ 0) → length zeros < 4072 → block ≡ block_of list
unfolding block_of
block_made block list zeros each is none short =
    let len = length-joined block each in
    let all = ap length is ∙ length-append (payload_bytes list) zeros in
    let count : length block ≡ chunk_count list = omega arith in
    sym (own_chunks block each)
    ∙ ap (λ (l : List ℕ). chunks_from 0 (length block) l) is
    ∙ chunks_same 0 (length block) (payload_bytes list ++ zeros) (payload_bytes list)
    (λ k low high. same_with_zeros (payload_bytes list) zeros none k)
    ∙ ap (λ (n : ℕ). chunks_from 0 n (payload_bytes list)) count

-- ---- the bytes of the block of batches

bytes_split : (m n at : ℕ) (file : List ℕ) →
    bytes_from at (m + n) file ≡ bytes_from at m file ++ bytes_from (at + m) n file
unfolding bytes_from
bytes_split zero n at file =
    let none : zero + n ≡ n = omega arith in
    let same : at ≡ at + zero = omega arith in
    ap (λ (k : ℕ). bytes_from at k file) none ∙ ap (λ (k : ℕ). bytes_from k n file) same
bytes_split (suc m) n at file =
    let more : suc m + n ≡ suc (m + n) = omega arith in
    let moved : at + 1 + m ≡ at + suc m = omega arith in
    ap (λ (k : ℕ). bytes_from at k file) more
    ∙ ap (λ (l : List ℕ). get_or file at 0 ∷ l) (bytes_split m n (at + 1) file
    ∙ ap (λ (k : ℕ). bytes_from (at + 1) m file ++ bytes_from k n file) moved)

joined_chunks : (n i : ℕ) (bytes : List ℕ) → joined (chunks_from i n bytes) ≡ bytes_from (4072 * i) (4072 * n) bytes
unfolding chunks_from bytes_from
joined_chunks zero i bytes =
    let none : 0 ≡ 4072 * zero = omega arith in
    ap (λ (k : ℕ). bytes_from (4072 * i) k bytes) none
joined_chunks (suc n) i bytes =
    let all : 4072 + 4072 * n ≡ 4072 * suc n = omega arith in
    let moved : 4072 * (i + 1) ≡ 4072 * i + 4072 = omega arith in
    ap (λ (l : List ℕ). bytes_from (4072 * i) 4072 bytes ++ l) (joined_chunks n (i + 1) bytes
    ∙ ap (λ (k : ℕ). bytes_from k (4072 * n) bytes) moved)
    ∙ sym (bytes_split 4072 (4072 * n) (4072 * i) bytes)
    ∙ ap (λ (k : ℕ). bytes_from (4072 * i) k bytes) all

zero_at : (n i : ℕ) → get_or {A = ℕ} (replicate n 0) i 0 ≡ 0
zero_at n i = elim (cases_lt i n) [
  | inl lt ↦ get_or-replicate n i 0 0 lt
  | inr le ↦ get_or_past (replicate n 0) i 0 (subst (λ (k : ℕ). k ≤ i) (sym (length-replicate n 0)) le)
]

-- the bytes of the block of these batches: theirs, and 00 behind them
pub joined_block : (list : List Submission) (z : ℕ) → length (payload_bytes list) + z ≡ 4072 * chunk_count list →
    joined (block_of list) ≡ payload_bytes list ++ replicate z 0
unfolding block_of
joined_block list z is =
    let bytes = payload_bytes list in
    let all : 4072 * 0 ≡ 0 = omega arith in
    joined_chunks (chunk_count list) 0 bytes
    ∙ ap (λ (k : ℕ). bytes_from k (4072 * chunk_count list) bytes) all
    ∙ sym (listed_bytes (4072 * chunk_count list) 0 (bytes ++ replicate z 0) bytes
    (let a = length-append bytes (replicate z 0) in let b : length {A = ℕ} (replicate z 0) ≡ z = length-replicate z 0 in
    omega arith)
    (λ k lt. let same : k ≡ 0 + k = omega arith in
    same_with_zeros bytes (replicate z 0) (zero_at z) k ∙ ap (λ (i : ℕ). get_or bytes i 0) same))

zeros_blank : (n : ℕ) → is_blank (replicate n 0) ≡ true
zeros_blank zero = refl
zeros_blank (suc n) = zeros_blank n

-- ---- what the reader answers

few_batches : (list : List Submission) → length (block_of list) < 2 ^ 32 → length list < 2 ^ 64
few_batches list few =
    let a = length-block list in
    let b = length-payload list in
    let c = batches_take list in
    omega arith

pub holds : (s : Setting) (bytes : List ℕ) (list : List Submission) (n : ℕ) → IsTaken s bytes list n →
    is_filled n bytes ≡ true → (block : Block) → FillsPages block → joined block ≡ bytes → HoldsBatches s block list
holds s bytes list n taken filled block fills is =
    let rest_is : drop n bytes ≡ taken.rest =
    ap (drop n) taken.whole ∙ drop_at (payload_bytes list) taken.rest n (sym taken.taken_is) in
    let len = length-drop n bytes in
    let all = ap length rest_is in
    let parts : (nat_lt (length bytes - n) 4072 ≡ true) × (is_blank (drop n bytes) ≡ true) = both _ _ filled in
    let short : length bytes - n < 4072 = ltb-true (length bytes - n) 4072 parts.0 in
    record {
      some = taken.some;
      each = taken.each;
      block_is = block_made block list taken.rest fills.each (is ∙ taken.whole)
          (blank_zeros taken.rest (ap is_blank (sym rest_is) ∙ parts.1)) (omega arith);
    }
  where
    both : (a b : Bool) → (a && b) ≡ true → (a ≡ true) × (b ≡ true)
    both true true e = (refl, refl)
    both true false e = absurd cc
    both false b e = absurd cc

-- the bytes of a block that holds these batches begin with theirs
record Begins (bytes : List ℕ) (list : List Submission) : Type 0 where
  zeros : ℕ
  whole : bytes ≡ payload_bytes list ++ replicate zeros 0
  short : zeros < 4072
  few : length list < 2 ^ 64

begins : (s : Setting) (block : Block) (list : List Submission) → FillsPages block → HoldsBatches s block list →
    Begins (joined block) list
begins s block list fills has =
    let z = 4072 * chunk_count list - length (payload_bytes list) in
    let some = length-payload list in
    let few = fills.few in
    let count = ap length has.block_is in
    record {
      zeros = z;
      whole = ap joined has.block_is ∙ joined_block list z (omega arith);
      short = omega arith;
      few = few_batches list (omega arith);
    }

pub none_held : (s : Setting) (bytes : List ℕ) → HasNoBatches s bytes → (block : Block) (list : List Submission) →
    FillsPages block → joined block ≡ bytes → HoldsBatches s block list → ⊥
none_held s bytes none block list fills is has =
    let b = begins s block list fills has in
    none list (replicate b.zeros 0) has.some b.few has.each (sym is ∙ b.whole)

pub not_filled : (h : Head) → IsFor h → (bytes : List ℕ) (list : List Submission) (n : ℕ) →
    IsTaken h.setup bytes list n →
    is_filled n bytes ≡ false → (block : Block) (other : List Submission) → FillsPages block → joined block ≡ bytes →
    HoldsBatches h.setup block other → ⊥
not_filled h for bytes list n taken falls block other fills is has =
    let b = begins h.setup block other fills has in
    let same = one_list h for list other taken.rest (replicate b.zeros 0) taken.each taken.some taken.few has.each
    has.some b.few (sym taken.whole ∙ sym is ∙ b.whole) in
    let rest_is : drop n bytes ≡ replicate b.zeros 0 =
    ap (drop n) taken.whole ∙ drop_at (payload_bytes list) taken.rest n (sym taken.taken_is) ∙ same.1 in
    let len = length-drop n bytes in
    let z : length {A = ℕ} (replicate b.zeros 0) ≡ b.zeros = length-replicate b.zeros 0 in
    let all : length (drop n bytes) ≡ length {A = ℕ} (replicate b.zeros 0) = ap length rest_is in
    let short = b.short in
    let first : nat_lt (length bytes - n) 4072 ≡ true = lt-ltb (length bytes - n) 4072 (omega arith) in
    let second : is_blank (drop n bytes) ≡ true = ap is_blank rest_is ∙ zeros_blank b.zeros in
    let is_true : is_filled n bytes ≡ true = ap (λ (x : Bool). x && is_blank (drop n bytes)) first ∙ second in
    absurd (wrong (sym is_true ∙ falls))
  where
    wrong : true ≡ false → ⊥
    wrong e = cc

-- a block has one list at most
pub same_lists : (h : Head) → IsFor h → (block : Block) (list other : List Submission) → FillsPages block →
    HoldsBatches h.setup block list → HoldsBatches h.setup block other → list ≡ other
same_lists h for block list other fills a b =
    let x = begins h.setup block list fills a in
    let y = begins h.setup block other fills b in
    (one_list h for list other (replicate x.zeros 0) (replicate y.zeros 0) a.each a.some x.few b.each b.some y.few
    (sym x.whole ∙ y.whole)).0

-- What is read of a file is read of its bytes.
use Rattle.std.proofs.Common.{◌≡◌, ◌⊎◌, inl, inr, ⊎_elim, ℕ, zero, suc, ◌+◌, ◌-◌, ◌*◌, ◌^◌, ◌<◌, ◌≤◌, Bool, true, false, cond, List, [], ◌∷◌, ◌++◌, length, get_or, refl, sym, ◌∙◌, ap, subst, arith, append_assoc, length-append}
use Rattle.std.specs.Prelude.{◌==◌, ◌&&◌, replicate, Ok, Err}
use Rattle.std.specs.Int.{w32, to_be_bytes}
use Rattle.std.specs.List.{AllByRecursion}
use Rattle.std.proofs.lemmas.List.{get_or-append-add, append-nil, length_push, get_or_past, get_or_append_left, get_or_at}
use Rattle.std.proofs.lemmas.Bool.{cases_lt, cases_eq, cases_Bool, cond-true, cond-false}
use Rattle.log_page.specs.Pages.{kind_of, pages_field, chunk_field, Lost, is_next, is_whole}
use Rattle.log_page.proofs.PageFields.{PageFits, length-page_of}
use Rattle.log_blocks.specs.Blocks.{Page, Block, batches_in, pages_from, block_pages, log_pages, place_behind, FillsPages, IsBlock, blank_page, LostPages}
use Rattle.log_blocks.specs.Reading.{is_allowed, known_pages, known_shown, could_be_torn, damaged_at, with_whole, ended, read_from, read_pages, fault_at}
use Rattle.log_blocks.specs.Files.{IsSame, bytes_from, pages_of, page_count, recovered, joined, log_bytes, next_bytes, MayHold}
use Rattle.log_blocks.specs.declared.fault.LogKind.TheVariants.{Damaged}
use Rattle.log_blocks.proofs.Torn.{settled_log_read, blank_read, blank_could_be_torn, torn_log_read, place-le, length-pages_from}

-- ---- blank pages behind the last one say nothing

torn_with_blanks : (place page known n : ℕ) (shown : List ℕ) (ps : List Page) →
    could_be_torn place page known shown (ps ++ replicate n blank_page) ≡ could_be_torn place page known shown ps
unfolding could_be_torn
torn_with_blanks place page known n shown [] = blank_could_be_torn place page known n shown
torn_with_blanks place page known n shown (p ∷ ps) =
    ap (λ b. is_allowed (kind_of p) place page known shown p && b)
    (torn_with_blanks place (page + 1) (known_pages (kind_of p) known p) n (known_shown (kind_of p) shown p) ps)

-- the page that may not stand is the same
damaged_with_blanks : (place page known n : ℕ) (shown : List ℕ) (ps : List Page) →
    could_be_torn place page known shown ps ≡ false →
    damaged_at place page known shown (ps ++ replicate n blank_page) ≡ damaged_at place page known shown ps
unfolding could_be_torn damaged_at
damaged_with_blanks place page known n shown [] torn = absurd (wrong torn)
  where
    wrong : true ≡ false → ⊥
    wrong h = cc
damaged_with_blanks place page known n shown (p ∷ ps) torn =
    let more = known_pages (kind_of p) known p in
    let told = known_shown (kind_of p) shown p in
    elim (cases_Bool (is_allowed (kind_of p) place page known shown p)) [
      | inl stands ↦
          let later : could_be_torn place (page + 1) (known_pages (kind_of p) known p)
          (known_shown (kind_of p) shown p) ps ≡ false =
          sym (ap (λ b. b && could_be_torn place (page + 1) (known_pages (kind_of p) known p)
          (known_shown (kind_of p) shown p) ps) stands) ∙ torn in
          cond-true (is_allowed (kind_of p) place page known shown p) _ _ stands
          ∙ damaged_with_blanks place (page + 1) more n told ps later
          ∙ sym (cond-true (is_allowed (kind_of p) place page known shown p)
          (damaged_at place (page + 1) (known_pages (kind_of p) known p) (known_shown (kind_of p) shown p) ps) page
          stands)
      | inr falls ↦
          cond-false (is_allowed (kind_of p) place page known shown p) _ _ falls
          ∙ sym (cond-false (is_allowed (kind_of p) place page known shown p)
          (damaged_at place (page + 1) (known_pages (kind_of p) known p) (known_shown (kind_of p) shown p) ps) page
          falls)
    ]

ended_with_blanks : (place from page known n : ℕ) (shown : List ℕ) (ps : List Page) →
    ended place from page known shown (ps ++ replicate n blank_page) ≡ ended place from page known shown ps
ended_with_blanks place from page known n shown ps =
    elim (cases_Bool (could_be_torn place page known shown ps)) [
      | inl torn ↦ cond-true (could_be_torn place page known shown (ps ++ replicate n blank_page)) _ _
          (torn_with_blanks place page known n shown ps ∙ torn)
          ∙ sym (cond-true (could_be_torn place page known shown ps) (Ok [])
          (Err (fault_at Damaged (from + damaged_at place page known shown ps))) torn)
      | inr not ↦
          cond-false (could_be_torn place page known shown (ps ++ replicate n blank_page)) _ _
          (torn_with_blanks place page known n shown ps ∙ not)
          ∙ ap (λ k. Err (fault_at Damaged (from + k))) (damaged_with_blanks place page known n shown ps not)
          ∙ sym (cond-false (could_be_torn place page known shown ps) (Ok [])
          (Err (fault_at Damaged (from + damaged_at place page known shown ps))) not)
    ]

same_choice : {X : Type 0} (b : Bool) (x x' y y' : X) → x ≡ x' → y ≡ y' → cond b x y ≡ cond b x' y'
same_choice b x x' y y' ex ey = cc

pub read_with_blanks : (place from known n : ℕ) (made : Block) (ps : List Page) →
    read_from place from made known (ps ++ replicate n blank_page) ≡ read_from place from made known ps
unfolding read_from
read_with_blanks place from known n made [] = blank_read place from known n made
read_with_blanks place from known n made (p ∷ ps) =
    let block = made ++ chunk_field p ∷ [] in
    same_choice (is_whole (kind_of p) && is_next place (length made) known p) _ _ _ _
    (same_choice (length made + 1 == pages_field p) _ _ _ _
    (ap (with_whole from block) (read_with_blanks (place + batches_in block) (from + length block) 0 n [] ps))
    (read_with_blanks place from (pages_field p) n block ps))
    (ended_with_blanks place from (length made) known n (to_be_bytes w32 known) (p ∷ ps))

-- ---- bytes and pages of files

bytes_same : (at n : ℕ) (file other : List ℕ) → ((i : ℕ) → at ≤ i → i < at + n → get_or file i 0 ≡ get_or other i 0) →
    bytes_from at n file ≡ bytes_from at n other
unfolding bytes_from
bytes_same at zero file other same = refl
bytes_same at (suc n) file other same =
    let here = same at (omega arith) (omega arith) in
    let later = bytes_same (at + 1) n file other (λ i low high. same i (omega arith) (omega arith)) in
    ap (λ b. b ∷ bytes_from (at + 1) n file) here ∙ ap (λ (l : List ℕ). get_or other at 0 ∷ l) later

bytes_lost : (at n : ℕ) (file left : List ℕ) →
    ((i : ℕ) → at ≤ i → i < at + n → (get_or left i 0 ≡ get_or file i 0) ⊎ (get_or left i 0 ≡ 0)) →
    Lost (bytes_from at n file) (bytes_from at n left)
unfolding bytes_from
bytes_lost at zero file left lost = tt
bytes_lost at (suc n) file left lost = (
  lost at (omega arith) (omega arith),
  bytes_lost (at + 1) n file left (λ i low high. lost i (omega arith) (omega arith)),
)

pub pages_same : (page n : ℕ) (file other : List ℕ) →
    ((i : ℕ) → 4096 * page ≤ i → i < 4096 * (page + n) → get_or file i 0 ≡ get_or other i 0) →
    pages_of page n file ≡ pages_of page n other
unfolding pages_of
pages_same page zero file other same = refl
pages_same page (suc n) file other same =
    let here = bytes_same (4096 * page) 4096 file other (λ i low high. same i (omega arith) (omega arith)) in
    let later = pages_same (page + 1) n file other (λ i low high. same i (omega arith) (omega arith)) in
    ap (λ (p : Page). p ∷ pages_of (page + 1) n file) here
    ∙ ap (λ (l : List Page). bytes_from (4096 * page) 4096 other ∷ l) later

pub pages_lost : (page n : ℕ) (file left : List ℕ) →
    ((i : ℕ) → 4096 * page ≤ i → i < 4096 * (page + n) → (get_or left i 0 ≡ get_or file i 0) ⊎ (get_or left i 0 ≡ 0)) →
    LostPages (pages_of page n file) (pages_of page n left)
unfolding pages_of
pages_lost page zero file left lost = tt
pages_lost page (suc n) file left lost = (
  bytes_lost (4096 * page) 4096 file left (λ i low high. lost i (omega arith) (omega arith)),
  pages_lost (page + 1) n file left (λ i low high. lost i (omega arith) (omega arith)),
)

pub pages_split : (page m n : ℕ) (file : List ℕ) →
    pages_of page (m + n) file ≡ pages_of page m file ++ pages_of (page + m) n file
unfolding pages_of
pages_split page zero n file =
    let none : zero + n ≡ n = omega arith in
    let same : page ≡ page + zero = omega arith in
    ap (λ k. pages_of page k file) none ∙ ap (λ k. pages_of k n file) same
pages_split page (suc m) n file =
    let more : suc m + n ≡ suc (m + n) = omega arith in
    let moved : page + 1 + m ≡ page + suc m = omega arith in
    ap (λ k. pages_of page k file) more
    ∙ ap (λ (l : List Page). bytes_from (4096 * page) 4096 file ∷ l) (pages_split (page + 1) m n file
    ∙ ap (λ k. pages_of (page + 1) m file ++ pages_of k n file) moved)

bytes_behind : (at n : ℕ) (file : List ℕ) → length file ≤ at → bytes_from at n file ≡ replicate n 0
unfolding bytes_from
bytes_behind at zero file past = refl
bytes_behind at (suc n) file past =
    ap (λ b. b ∷ bytes_from (at + 1) n file) (get_or_past file at 0 past)
    ∙ ap (λ (l : List ℕ). 0 ∷ l) (bytes_behind (at + 1) n file (omega arith))

pub pages_behind : (page n : ℕ) (file : List ℕ) → length file ≤ 4096 * page →
    pages_of page n file ≡ replicate n blank_page
unfolding pages_of
pages_behind page zero file past = refl
pages_behind page (suc n) file past =
    ap (λ (p : Page). p ∷ pages_of (page + 1) n file) (bytes_behind (4096 * page) 4096 file past)
    ∙ ap (λ (l : List Page). blank_page ∷ l) (pages_behind (page + 1) n file (omega arith))

-- so it doesn't matter how many pages are read, where there are enough
pub recovered_is : (first n : ℕ) (file : List ℕ) → page_count file ≤ n →
    recovered first file ≡ read_pages first (pages_of 0 n file)
unfolding recovered
recovered_is first n file enough =
    let count = page_count file in
    let more : count + (n - count) ≡ n = omega arith in
    sym (
    ap (λ k. read_pages first (pages_of 0 k file)) (sym more)
    ∙ ap (read_pages first) (pages_split 0 count (n - count) file)
    ∙ ap (λ (l : List Page). read_pages first (pages_of 0 count file ++ l))
    (pages_behind (0 + count) (n - count) file (omega arith))
    ∙ read_with_blanks first 1 0 (n - count) [] (pages_of 0 count file)
    )

-- ---- the pages of joined pages

bytes_part : (front bytes behind : List ℕ) (at n : ℕ) → length front ≡ at → length bytes ≡ n →
    bytes_from at n (front ++ (bytes ++ behind)) ≡ bytes
unfolding bytes_from
bytes_part front [] behind at zero here long = refl
bytes_part front [] behind at (suc n) here long = absurd (omega arith)
bytes_part front (b ∷ bytes) behind at zero here long = absurd (omega arith)
bytes_part front (b ∷ bytes) behind at (suc n) here long =
    let moved : front ++ (b ∷ bytes ++ behind) ≡ (front ++ b ∷ []) ++ (bytes ++ behind) =
    sym (append_assoc front (b ∷ []) (bytes ++ behind)) in
    let first : get_or (front ++ (b ∷ bytes ++ behind)) at 0 ≡ b = get_or_at front b (bytes ++ behind) 0 at here in
    let later : bytes_from (at + 1) n (front ++ (b ∷ bytes ++ behind)) ≡ bytes =
    ap (bytes_from (at + 1) n) moved
    ∙ bytes_part (front ++ b ∷ []) bytes behind (at + 1) n (omega (arith, length_push front b)) (omega arith) in
    ap (λ x. x ∷ bytes_from (at + 1) n (front ++ (b ∷ bytes ++ behind))) first ∙ ap (λ (l : List ℕ). b ∷ l) later

ArePages : List Page → Type 0
ArePages pages = AllByRecursion (λ page. length page ≡ 4096) pages

pub pages_part : (front : List ℕ) (pages : List Page) (behind : List ℕ) (page : ℕ) → length front ≡ 4096 * page →
    AllByRecursion (λ p. length p ≡ 4096) pages →
    pages_of page (length pages) (front ++ (joined pages ++ behind)) ≡ pages
unfolding pages_of
pages_part front [] behind page here long = refl
pages_part front (p ∷ pages) behind page here long =
    let regrouped : (p ++ joined pages) ++ behind ≡ p ++ (joined pages ++ behind) = append_assoc p (joined pages) behind
    in
    let whole = front ++ (p ++ (joined pages ++ behind)) in
    let moved : whole ≡ (front ++ p) ++ (joined pages ++ behind) = sym (append_assoc front p (joined pages ++ behind))
    in
    ap (λ (l : List ℕ). pages_of page (suc (length pages)) (front ++ l)) regrouped
    ∙ ap (λ (q : Page). q ∷ pages_of (page + 1) (length pages) whole)
    (bytes_part front p (joined pages ++ behind) (4096 * page) 4096 here long.0)
    ∙ ap (λ (l : List Page). p ∷ l) (ap (pages_of (page + 1) (length pages)) moved
    ∙ pages_part (front ++ p) pages behind (page + 1) (omega (arith, length-append front p, long.0)) long.1)

-- files whose pages are the same have the same bytes there
same_from_bytes : (at n : ℕ) (file other : List ℕ) → bytes_from at n file ≡ bytes_from at n other → (i : ℕ) → at ≤ i →
    i < at + n → get_or file i 0 ≡ get_or other i 0
unfolding bytes_from
same_from_bytes at zero file other same i low high = absurd (omega arith)
same_from_bytes at (suc n) file other same i low high =
    let head : get_or file at 0 ≡ get_or other at 0 = cc in
    let tail : bytes_from (at + 1) n file ≡ bytes_from (at + 1) n other = cc in
    elim (cases_eq i at) [
      | inl here ↦ ap (λ k. get_or file k 0) here ∙ head ∙ ap (λ k. get_or other k 0) (sym here)
      | inr later ↦ same_from_bytes (at + 1) n file other tail i (omega arith) (omega arith)
    ]

same_from_pages : (page n : ℕ) (file other : List ℕ) → pages_of page n file ≡ pages_of page n other → (i : ℕ) →
    4096 * page ≤ i → i < 4096 * (page + n) → get_or file i 0 ≡ get_or other i 0
unfolding pages_of
same_from_pages page zero file other same i low high = absurd (omega arith)
same_from_pages page (suc n) file other same i low high =
    let head : bytes_from (4096 * page) 4096 file ≡ bytes_from (4096 * page) 4096 other = cc in
    let tail : pages_of (page + 1) n file ≡ pages_of (page + 1) n other = cc in
    elim (cases_lt i (4096 * page + 4096)) [
      | inl here ↦ same_from_bytes (4096 * page) 4096 file other head i low here
      | inr later ↦ same_from_pages (page + 1) n file other tail i (omega arith) (omega arith)
    ]

-- ---- what a log is read as

are_pages : (place page pages : ℕ) (chunks : Block) → place < 2 ^ 64 → pages < 2 ^ 32 → page + length chunks ≡ pages →
    AllByRecursion (λ chunk. length chunk ≡ 4072) chunks →
    AllByRecursion (λ p. length p ≡ 4096) (pages_from place page pages chunks)
are_pages place page pages [] place_fits pages_fits count sizes = tt
are_pages place page pages (chunk ∷ chunks) place_fits pages_fits count sizes =
    let fits : PageFits place page pages chunk =
    record { place_fits = place_fits; within = omega arith; pages_fits = pages_fits; chunk_fits = sizes.0 } in (
      length-page_of place page pages chunk fits,
      are_pages place (page + 1) pages chunks place_fits pages_fits (omega arith) sizes.1,
    )

pub block_are_pages : (place : ℕ) (block : Block) → place < 2 ^ 64 → FillsPages block →
    AllByRecursion (λ p. length p ≡ 4096) (block_pages place block)
block_are_pages place block place_fits is =
    are_pages place 0 (length block) block place_fits is.few (omega arith) is.each

both : (ps qs : List Page) → AllByRecursion (λ p. length p ≡ 4096) ps → AllByRecursion (λ p. length p ≡ 4096) qs →
    AllByRecursion (λ p. length p ≡ 4096) (ps ++ qs)
both [] qs left right = right
both (p ∷ ps) qs left right = (left.0, both ps qs left.1 right)

pub log_are_pages : (place : ℕ) (blocks : List Block) → place_behind place blocks < 2 ^ 64 →
    AllByRecursion IsBlock blocks → AllByRecursion (λ p. length p ≡ 4096) (log_pages place blocks)
log_are_pages place [] fits are = tt
log_are_pages place (block ∷ blocks) fits are =
    let behind = place + batches_in block in
    both (block_pages place block) (log_pages behind blocks)
    (block_are_pages place block (omega (arith, place-le behind blocks)) are.0.fills)
    (log_are_pages behind blocks fits are.1)

pub length-joined : (pages : List Page) → AllByRecursion (λ p. length p ≡ 4096) pages →
    length (joined pages) ≡ 4096 * length pages
length-joined [] are = refl
length-joined (p ∷ pages) are = omega (arith, length-append p (joined pages), length-joined pages are.1, are.0)

-- what the pages of a file with these bytes are
pub own_pages : (pages : List Page) → AllByRecursion (λ p. length p ≡ 4096) pages →
    pages_of 0 (length pages) (joined pages) ≡ pages
own_pages pages are =
    let bare : joined pages ≡ [] ++ (joined pages ++ []) = sym (append-nil (joined pages)) in
    ap (pages_of 0 (length pages)) bare ∙ pages_part [] pages [] 0 refl are

-- A file that may hold the next block of a log is read as the blocks with or without it; and with it only where it has
-- all bytes of it.
module _ (first : ℕ) (blocks : List Block) (block : Block) (fits : place_behind first blocks < 2 ^ 64)
    (are : AllByRecursion IsBlock blocks) (is : IsBlock block) where
  front : List Page
  front = log_pages first blocks

  back : List Page
  back = block_pages (place_behind first blocks) block

  front_are : AllByRecursion (λ p. length p ≡ 4096) (log_pages first blocks)
  front_are = log_are_pages first blocks fits are

  back_are : AllByRecursion (λ p. length p ≡ 4096) (block_pages (place_behind first blocks) block)
  back_are = block_are_pages (place_behind first blocks) block fits is.fills

  pub log_length : length (log_bytes first blocks) ≡ 4096 * length (log_pages first blocks)
  log_length = length-joined (log_pages first blocks) front_are

  next_length : length (next_bytes first blocks block) ≡ 4096 * length (block_pages (place_behind first blocks) block)
  next_length = length-joined (block_pages (place_behind first blocks) block) back_are

  pub held_front : (file : List ℕ) → MayHold first blocks block file → (i : ℕ) → 4096 * 0 ≤ i →
      i < 4096 * (0 + length (log_pages first blocks)) → get_or file i 0 ≡ get_or (log_bytes first blocks) i 0
  held_front file held i low high =
      ⊎_elim (λ same. same) (λ other. absurd (omega (arith, other.2, log_length))) (held i)

  -- the bytes of the block behind those of the log
  unfoldable pub both_bytes : List ℕ
  both_bytes = log_bytes first blocks ++ next_bytes first blocks block

  back_pages : pages_of (length (log_pages first blocks)) (length (block_pages (place_behind first blocks) block))
      both_bytes ≡ block_pages (place_behind first blocks) block
  unfolding both_bytes
  back_pages =
      ap (λ (l : List ℕ). pages_of (length (log_pages first blocks))
      (length (block_pages (place_behind first blocks) block)) (log_bytes first blocks ++ l))
      (sym (append-nil (next_bytes first blocks block)))
      ∙ pages_part (log_bytes first blocks) (block_pages (place_behind first blocks) block) []
      (length (log_pages first blocks)) log_length back_are

  held_back : (file : List ℕ) → MayHold first blocks block file → (i : ℕ) → 4096 * length (log_pages first blocks) ≤ i →
      i < 4096 * (length (log_pages first blocks) + length (block_pages (place_behind first blocks) block))
      → (get_or file i 0 ≡ get_or both_bytes i 0) ⊎ (get_or file i 0 ≡ 0)
  unfolding both_bytes
  held_back file held i low high =
      ⊎_elim
      (λ same. inr (same ∙ get_or_past (log_bytes first blocks) i 0 (omega (arith, log_length))))
      (λ other. inl (other.3 ∙ sym (ap (λ k. get_or (log_bytes first blocks ++ next_bytes first blocks block) k 0)
      other.2 ∙ get_or-append-add (log_bytes first blocks) (next_bytes first blocks block) other.0 0)))
      (held i)

  held_behind : (file : List ℕ) → MayHold first blocks block file → (i : ℕ) →
      4096 * (length (log_pages first blocks) + length (block_pages (place_behind first blocks) block)) ≤ i →
      get_or file i 0 ≡ 0
  held_behind file held i low =
      ⊎_elim
      (λ same. same ∙ get_or_past (log_bytes first blocks) i 0 (omega (arith, log_length)))
      (λ other. absurd (omega (arith, other.1, other.2, log_length, next_length)))
      (held i)

  -- where the block's pages are whole, the file has all bytes
  held_all : (file : List ℕ) → MayHold first blocks block file
      → pages_of (length (log_pages first blocks)) (length (block_pages (place_behind first blocks) block)) file ≡
      pages_of (length (log_pages first blocks)) (length (block_pages (place_behind first blocks) block))
      both_bytes → IsSame file both_bytes
  unfolding both_bytes
  held_all file held same i =
      let a = length (log_pages first blocks) in
      let b = length (block_pages (place_behind first blocks) block) in
      elim (cases_lt i (4096 * a)) [
        | inl before ↦ held_front file held i (omega arith) (omega arith)
            ∙ sym (get_or_append_left (log_bytes first blocks) (next_bytes first blocks block) 0 i
            (omega (arith, log_length)))
        | inr from ↦
            elim (cases_lt i (4096 * (a + b))) [
              | inl within ↦ same_from_pages a b file both_bytes same i from within
              | inr past ↦ held_behind file held i past
                  ∙ sym (get_or_past both_bytes i 0
                  (omega (
                    arith,
                    length-append (log_bytes first blocks) (next_bytes first blocks block),
                    log_length,
                    next_length,
                  )))
            ]
      ]

  pub read_of_held : (file : List ℕ) → MayHold first blocks block file →
      (recovered first file ≡ Ok blocks) ⊎ (IsSame file both_bytes × (recovered first file ≡ Ok (blocks ++ block ∷ [])))
  read_of_held file held =
      let a = length (log_pages first blocks) in
      let b = length (block_pages (place_behind first blocks) block) in
      let m = page_count file in
      let left = pages_of a b file in
      let none : 0 + a ≡ a = omega arith in
      let front_read : pages_of 0 a file ≡ log_pages first blocks =
      pages_same 0 a file (log_bytes first blocks) (held_front file held)
      ∙ own_pages (log_pages first blocks) front_are in
      let last : pages_of (a + b) m file ≡ replicate m blank_page =
      pages_same (a + b) m file [] (λ i low high. held_behind file held i low) ∙ pages_behind (a + b) m [] (omega arith)
      in
      let split : pages_of 0 (a + (b + m)) file ≡ log_pages first blocks ++ (left ++ replicate m blank_page) =
      pages_split 0 a (b + m) file
      ∙ ap (λ (l : List Page). l ++ pages_of (0 + a) (b + m) file) front_read
      ∙ ap (λ k. log_pages first blocks ++ pages_of k (b + m) file) none
      ∙ ap (λ (l : List Page). log_pages first blocks ++ l) (pages_split a b m file
      ∙ ap (λ (l : List Page). left ++ l) last) in
      let all : recovered first file ≡ read_pages first (log_pages first blocks ++ (left ++ replicate m blank_page)) =
      recovered_is first (a + (b + m)) file (omega arith) ∙ ap (read_pages first) split in
      let lost : LostPages (block_pages (place_behind first blocks) block) left =
      subst (λ (l : List Page). LostPages l left) back_pages (pages_lost a b both_bytes file (held_back file held)) in
      ⊎_elim
      (λ without. inl (all ∙ without))
      (λ found. inr (held_all file held (found.0 ∙ sym back_pages), all ∙ found.1))
      (torn_log_read first blocks block left m fits are is lost)

pub read_held : (first : ℕ) (blocks : List Block) (block : Block) → place_behind first blocks < 2 ^ 64 →
    AllByRecursion IsBlock blocks → IsBlock block → (file : List ℕ) → MayHold first blocks block file
    → (recovered first file ≡ Ok blocks) ⊎ (IsSame file (log_bytes first blocks ++ next_bytes first blocks block) ×
    (recovered first file ≡ Ok (blocks ++ block ∷ [])))
unfolding both_bytes
read_held first blocks block fits are is file held = read_of_held first blocks block fits are is file held

-- a file with the bytes of a log, and 00 behind them, is read as its blocks
pub settled_read : (first : ℕ) (blocks : List Block) (file : List ℕ) → place_behind first blocks < 2 ^ 64 →
    AllByRecursion IsBlock blocks → IsSame file (log_bytes first blocks) → recovered first file ≡ Ok blocks
settled_read first blocks file fits are same =
    let pages_are = log_are_pages first blocks fits are in
    let a = length (log_pages first blocks) in
    let m = page_count file in
    let long : length (log_bytes first blocks) ≡ 4096 * a = length-joined (log_pages first blocks) pages_are in
    let front_read : pages_of 0 a file ≡ log_pages first blocks =
    pages_same 0 a file (log_bytes first blocks) (λ i low high. same i)
    ∙ own_pages (log_pages first blocks) pages_are in
    let last : pages_of (0 + a) m file ≡ replicate m blank_page =
    pages_same (0 + a) m file [] (λ i low high. same i ∙ get_or_past (log_bytes first blocks) i 0 (omega (arith, long)))
    ∙ pages_behind (0 + a) m [] (omega arith) in
    recovered_is first (a + m) file (omega arith)
    ∙ ap (read_pages first) (pages_split 0 a m file ∙ ap (λ (l : List Page). l ++ pages_of (0 + a) m file) front_read
    ∙ ap (λ (l : List Page). log_pages first blocks ++ l) last)
    ∙ settled_log_read first blocks m fits are

joined-append : (ps qs : List Page) → joined (ps ++ qs) ≡ joined ps ++ joined qs
joined-append [] qs = refl
joined-append (p ∷ ps) qs = ap (λ (l : List ℕ). p ++ l) (joined-append ps qs)
    ∙ sym (append_assoc p (joined ps) (joined qs))

pub pages_push : (place : ℕ) (blocks : List Block) (block : Block) →
    log_pages place (blocks ++ block ∷ []) ≡ log_pages place blocks ++ block_pages (place_behind place blocks) block
pages_push place [] block = append-nil (block_pages place block)
pages_push place (b ∷ blocks) block =
    ap (λ (l : List Page). block_pages place b ++ l) (pages_push (place + batches_in b) blocks block)
    ∙ sym (append_assoc (block_pages place b) (log_pages (place + batches_in b) blocks)
    (block_pages (place_behind (place + batches_in b) blocks) block))

-- the log with one block more
pub log_push : (first : ℕ) (blocks : List Block) (block : Block) →
    log_bytes first (blocks ++ block ∷ []) ≡ log_bytes first blocks ++ next_bytes first blocks block
log_push first blocks block =
    ap joined (pages_push first blocks block)
    ∙ joined-append (log_pages first blocks) (block_pages (place_behind first blocks) block)

pub page_total : (first : ℕ) (blocks : List Block) (block : Block) →
    length (log_pages first (blocks ++ block ∷ [])) ≡ length (log_pages first blocks) + length block
page_total first blocks block =
    omega (
      arith,
      ap length (pages_push first blocks block),
      length-append (log_pages first blocks) (block_pages (place_behind first blocks) block),
      length-pages_from (place_behind first blocks) 0 (length block) block,
    )

pub place_push : (first : ℕ) (blocks : List Block) (block : Block) →
    place_behind first (blocks ++ block ∷ []) ≡ place_behind first blocks + batches_in block
place_push first [] block = refl
place_push first (b ∷ blocks) block = place_push (first + batches_in b) blocks block

pub blocks_push : (blocks : List Block) (block : Block) → AllByRecursion IsBlock blocks → IsBlock block →
    AllByRecursion IsBlock (blocks ++ block ∷ [])
blocks_push [] block are is = (is, tt)
blocks_push (b ∷ blocks) block are is = (are.0, blocks_push blocks block are.1 is)

-- its length, and that of the bytes of the next block
pub log_end : (first : ℕ) (blocks : List Block) → place_behind first blocks < 2 ^ 64 → AllByRecursion IsBlock blocks →
    length (log_bytes first blocks) ≡ 4096 * length (log_pages first blocks)
log_end first blocks fits are = length-joined (log_pages first blocks) (log_are_pages first blocks fits are)

pub next_end : (first : ℕ) (blocks : List Block) (block : Block) → place_behind first blocks < 2 ^ 64 →
    FillsPages block → length (next_bytes first blocks block) ≡ 4096 * length block
next_end first blocks block fits is =
    length-joined (block_pages (place_behind first blocks) block)
    (block_are_pages (place_behind first blocks) block fits is)
    ∙ ap (λ n. 4096 * n) (length-pages_from (place_behind first blocks) 0 (length block) block)

-- ---- for the code

pub listed_bytes : (n at : ℕ) (page file : List ℕ) → length page ≡ n →
    ((k : ℕ) → k < n → get_or page k 0 ≡ get_or file (at + k) 0) → page ≡ bytes_from at n file
unfolding bytes_from
listed_bytes zero at [] file long same = refl
listed_bytes zero at (x ∷ page) file long same = absurd (omega arith)
listed_bytes (suc n) at [] file long same = absurd (omega arith)
listed_bytes (suc n) at (x ∷ page) file long same =
    let none : at + 0 ≡ at = omega arith in
    let head : x ≡ get_or file at 0 = same 0 (omega arith) ∙ ap (λ k. get_or file k 0) none in
    let later : page ≡ bytes_from (at + 1) n file =
    listed_bytes n (at + 1) page file (omega arith) (λ k lt. same (suc k) (omega arith)
    ∙ ap (λ m. get_or file m 0) (moved k)) in
    ap (λ b. b ∷ page) head ∙ ap (λ (l : List ℕ). get_or file at 0 ∷ l) later
  where
    moved : (k : ℕ) → at + suc k ≡ at + 1 + k
    moved k = omega arith

-- one page, and those behind it
pub next_file_page : (i count : ℕ) (file : List ℕ) → i < count →
    pages_of i (count - i) file ≡ bytes_from (4096 * i) 4096 file ∷ pages_of (i + 1) (count - (i + 1)) file
unfolding pages_of
next_file_page i count file lt =
    let more : count - i ≡ suc (count - (i + 1)) = omega arith in
    ap (λ n. pages_of i n file) more

pub no_file_page : (i count : ℕ) (file : List ℕ) → count ≤ i → pages_of i (count - i) file ≡ []
unfolding pages_of
no_file_page i count file le =
    let none : count - i ≡ 0 = omega arith in
    ap (λ n. pages_of i n file) none

-- files with the same bytes are read alike
pub same_recovered : (first : ℕ) (file other : List ℕ) → IsSame file other →
    recovered first file ≡ recovered first other
same_recovered first file other same =
    let n = page_count file + page_count other in
    recovered_is first n file (omega arith) ∙ ap (read_pages first) (pages_same 0 n file other (λ i low high. same i))
    ∙ sym (recovered_is first n other (omega arith))

-- one page more of a file
pub pages_step : (i : ℕ) (file : List ℕ) →
    pages_of 0 (i + 1) file ≡ pages_of 0 i file ++ bytes_from (4096 * i) 4096 file ∷ []
unfolding pages_of
pages_step i file = let none : 0 + i ≡ i = omega arith in pages_split 0 i 1 file
    ∙ ap (λ k. pages_of 0 i file ++ bytes_from (4096 * k) 4096 file ∷ []) none

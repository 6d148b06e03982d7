-- What is read of whole blocks, and of a last one that lost bytes.
use Rattle.std.proofs.Common.{◌≡◌, ◌≢◌, ◌⊎◌, inl, inr, ⊎_elim, ℕ, zero, suc, ◌+◌, ◌^◌, ◌<◌, ◌≤◌, true, false, cond, List, [], ◌∷◌, ◌++◌, length, refl, sym, ◌∙◌, ap, subst, arith, append_assoc, length-append}
use Rattle.std.specs.Prelude.{◌==◌, ◌&&◌, replicate, Result, Ok, Err}
use Rattle.std.specs.Int.{w32, to_be_bytes}
use Rattle.std.specs.List.{AllByRecursion}
use Rattle.std.proofs.lemmas.Bool.{and_from, and_left, eq-eqb, ne_eqb, cond-true, cond-false}
use Rattle.std.proofs.lemmas.List.{append-nil, length_push}
use Rattle.log_page.specs.Pages.{kind_of, page_of, is_blank, pages_field, chunk_field, is_next, is_whole, Lost}
use Rattle.log_page.specs.declared.page.PageKind.{PageKind}
use Rattle.log_page.specs.declared.page.PageKind.TheVariants.{Empty, Whole, Short}
use Rattle.log_page.proofs.Judging.{blank_kind}
use Rattle.log_page.proofs.LeftFields.{page_left}
use Rattle.log_page.proofs.Losses.{losses}
use Rattle.log_page.proofs.PageFields.{PageFits, length-page_of, pages_field_is, chunk_field_is, is_whole_page, next_is}
use Rattle.log_blocks.specs.Blocks.{Page, Block, batches_in, is_sound, pages_from, block_pages, log_pages, place_behind, FillsPages, IsBlock, blank_page, LostPages}
use Rattle.log_blocks.specs.Reading.{is_allowed, known_pages, known_shown, could_be_torn, damaged_at, IsLeft, AreLeft, with_block, with_whole, with_blocks, ended, read_from, read_pages, fault_at}
use Rattle.log_blocks.specs.declared.fault.LogFault.{LogFault}
use Rattle.log_blocks.specs.declared.fault.LogKind.TheVariants.{Damaged}
use Rattle.log_blocks.proofs.Counts.{agreed_start, left_is_torn}

-- ---- blank pages

blank_list : (n : ℕ) → is_blank (replicate n 0) ≡ true
blank_list zero = refl
blank_list (suc n) = blank_list n

pub blank_is_empty : kind_of blank_page ≡ Empty
blank_is_empty = blank_kind blank_page (blank_list 4096)

pub blank_could_be_torn : (place page pages n : ℕ) (shown : List ℕ) →
    could_be_torn place page pages shown (replicate n blank_page) ≡ true
unfolding could_be_torn
blank_could_be_torn place page pages zero shown = refl
blank_could_be_torn place page pages (suc n) shown =
    let ps = replicate n blank_page in
    and_from (is_allowed (kind_of blank_page) place page pages shown blank_page)
    (could_be_torn place (page + 1) (known_pages (kind_of blank_page) pages blank_page)
    (known_shown (kind_of blank_page) shown blank_page) ps)
    (ap (λ k. is_allowed k place page pages shown blank_page) blank_is_empty)
    (ap (λ k. could_be_torn place (page + 1) (known_pages k pages blank_page) (known_shown k shown blank_page) ps)
    blank_is_empty ∙ blank_could_be_torn place (page + 1) pages n shown)

-- ---- a block that lost bytes could be torn

is_left_of_kind : (k : PageKind) (place page pages : ℕ) (p : Page) → kind_of p ≡ k → IsLeft k place page pages p →
    IsLeft (kind_of p) place page pages p
is_left_of_kind k place page pages p is left = subst (λ x. IsLeft x place page pages p) (sym is) left

-- what a page of a block is once it lost bytes
lost_is_left : (place page pages : ℕ) (chunk : List ℕ) (q : Page) → (fits : PageFits place page pages chunk) →
    Lost (page_of place page pages chunk) q → IsLeft (kind_of q) place page pages q
lost_is_left place page pages chunk q fits lost =
    let p = page_of place page pages chunk in
    let P : Page → Type 0 = λ r. IsLeft (kind_of r) place page pages r in
    elim (losses p q (length-page_of place page pages chunk fits) lost (is_whole_page place page pages chunk fits)) [
      | inl same ↦
          let whole : IsLeft (kind_of p) place page pages p =
          is_left_of_kind Whole place page pages p (is_whole_page place page pages chunk fits)
          (fits.within, next_is place page pages chunk fits pages (inr refl)) in
          subst P (sym same) whole
      | inr (inl blank) ↦ is_left_of_kind Empty place page pages q blank tt
      | inr (inr short) ↦ is_left_of_kind Short place page pages q short
          (fits.within, page_left place page pages chunk fits q lost)
    ]

lost_are_left : (place page pages : ℕ) (chunks : Block) (left : List Page) → place < 2 ^ 64 → pages < 2 ^ 32 →
    page + length chunks ≡ pages → AllByRecursion (λ chunk. length chunk ≡ 4072) chunks →
    LostPages (pages_from place page pages chunks) left → AreLeft place page pages left
lost_are_left place page pages [] [] place_fits pages_fits count sizes lost = tt
lost_are_left place page pages [] (q ∷ left) place_fits pages_fits count sizes lost = absurd lost
lost_are_left place page pages (chunk ∷ chunks) [] place_fits pages_fits count sizes lost = absurd lost
lost_are_left place page pages (chunk ∷ chunks) (q ∷ left) place_fits pages_fits count sizes lost =
    let fits : PageFits place page pages chunk =
    record { place_fits = place_fits; within = omega arith; pages_fits = pages_fits; chunk_fits = sizes.0 } in (
      lost_is_left place page pages chunk q fits lost.0,
      lost_are_left place (page + 1) pages chunks left place_fits pages_fits (omega arith) sizes.1 lost.1,
    )

blanks_are_left : (place page pages n : ℕ) → AreLeft place page pages (replicate n blank_page)
blanks_are_left place page pages zero = tt
blanks_are_left place page pages (suc n) = (
  is_left_of_kind Empty place page pages blank_page blank_is_empty tt,
  blanks_are_left place (page + 1) pages n,
)

left_with_blanks : (place page pages n : ℕ) (left : List Page) → AreLeft place page pages left →
    AreLeft place page pages (left ++ replicate n blank_page)
left_with_blanks place page pages n [] are = blanks_are_left place page pages n
left_with_blanks place page pages n (q ∷ left) are =
    (are.0, left_with_blanks place (page + 1) pages n left are.1)

pub lost_could_be_torn : (place page pages known n : ℕ) (chunks : Block) (left : List Page) → place < 2 ^ 64 →
    pages < 2 ^ 32 → page + length chunks ≡ pages → AllByRecursion (λ chunk. length chunk ≡ 4072) chunks →
    (known ≡ 0) ⊎ (known ≡ pages)
    → LostPages (pages_from place page pages chunks) left →
    could_be_torn place page known (to_be_bytes w32 known) (left ++ replicate n blank_page) ≡ true
lost_could_be_torn place page pages known n chunks left place_fits pages_fits count sizes which lost =
    left_is_torn place page known pages (to_be_bytes w32 known) (left ++ replicate n blank_page) pages_fits
    (agreed_start pages known which)
    (left_with_blanks place page pages n left
    (lost_are_left place page pages chunks left place_fits pages_fits count sizes lost))

-- ---- reading

-- a page that is not whole ends what is read, where it and the pages behind it could be a block in the making
pub torn_end : (place from known : ℕ) (made : Block) (p : Page) (ps : List Page) → is_whole (kind_of p) ≡ false →
    could_be_torn place (length made) known (to_be_bytes w32 known) (p ∷ ps) ≡ true →
    read_from place from made known (p ∷ ps) ≡ Ok []
unfolding read_from
torn_end place from known made p ps other torn =
    cond-false (is_whole (kind_of p) && is_next place (length made) known p) _ _
    (and_left (is_whole (kind_of p)) (is_next place (length made) known p) other)
    ∙ cond-true (could_be_torn place (length made) known (to_be_bytes w32 known) (p ∷ ps)) (Ok [])
    (Err (fault_at Damaged (from + damaged_at place (length made) known (to_be_bytes w32 known) (p ∷ ps)))) torn

-- what is read of a block whose pages are whole, and of these pages behind it
abbrev pub read_whole : ℕ → ℕ → Block → List Page → Result (List Block) LogFault
read_whole place from block rest =
    with_whole from block (read_from (place + batches_in block) (from + length block) [] 0 rest)

pub next_page : (place from known : ℕ) (made : Block) (p : Page) (ps : List Page) →
    (is_whole (kind_of p) && is_next place (length made) known p) ≡ true
    → read_from place from made known (p ∷ ps) ≡ cond (length made + 1 == pages_field p)
    (read_whole place from (made ++ chunk_field p ∷ []) ps)
    (read_from place from (made ++ chunk_field p ∷ []) (pages_field p) ps)
unfolding read_from
next_page place from known made p ps next =
    cond-true (is_whole (kind_of p) && is_next place (length made) known p) _ _ next

pub other_page : (place from known : ℕ) (made : Block) (p : Page) (ps : List Page) →
    (is_whole (kind_of p) && is_next place (length made) known p) ≡ false
    → read_from place from made known (p ∷ ps) ≡
    ended place from (length made) known (to_be_bytes w32 known) (p ∷ ps)
unfolding read_from
other_page place from known made p ps other =
    cond-false (is_whole (kind_of p) && is_next place (length made) known p) _ _ other

pub none_read : (place from known : ℕ) (made : Block) → read_from place from made known [] ≡ Ok []
unfolding read_from
none_read place from known made = refl

pub blank_read : (place from known n : ℕ) (made : Block) →
    read_from place from made known (replicate n blank_page) ≡ Ok []
unfolding read_from
blank_read place from known zero made = refl
blank_read place from known (suc n) made =
    torn_end place from known made blank_page (replicate n blank_page) (ap is_whole blank_is_empty)
    (blank_could_be_torn place (length made) known (suc n) (to_be_bytes w32 known))

module _ (place from pages : ℕ) (place_fits : place < 2 ^ 64) (pages_fits : pages < 2 ^ 32) where
  whole_next : (known : ℕ) (made : Block) (chunk : List ℕ) → (fits : PageFits place (length made) pages chunk) →
      (known ≡ 0) ⊎ (known ≡ pages)
      → (is_whole (kind_of (page_of place (length made) pages chunk)) && is_next place (length made) known
      (page_of place (length made) pages chunk)) ≡ true
  whole_next known made chunk fits which =
      and_from _ _ (ap is_whole (is_whole_page place (length made) pages chunk fits))
      (next_is place (length made) pages chunk fits known which)

  -- the last page of a block
  last_page : (known : ℕ) (made : Block) (chunk : List ℕ) (rest : List Page) → length made + 1 ≡ pages →
      length chunk ≡ 4072 → (known ≡ 0) ⊎ (known ≡ pages)
      → read_from place from made known (page_of place (length made) pages chunk ∷ rest) ≡ read_whole place from
      (made ++ chunk ∷ []) rest
  last_page known made chunk rest count size which =
      let fits : PageFits place (length made) pages chunk =
      record { place_fits = place_fits; within = omega arith; pages_fits = pages_fits; chunk_fits = size } in
      let p = page_of place (length made) pages chunk in
      let all : length made + 1 ≡ pages_field p = count ∙ sym (pages_field_is place (length made) pages chunk fits) in
      next_page place from known made p rest (whole_next known made chunk fits which)
      ∙ cond-true (length made + 1 == pages_field p) _ _ (eq-eqb _ _ all)
      ∙ ap (λ c. read_whole place from (made ++ c ∷ []) rest) (chunk_field_is place (length made) pages chunk fits)

  -- a page that others of the block follow
  inner_page : (known : ℕ) (made : Block) (chunk : List ℕ) (rest : List Page) → length made + 1 < pages →
      length chunk ≡ 4072 → (known ≡ 0) ⊎ (known ≡ pages)
      → read_from place from made known (page_of place (length made) pages chunk ∷ rest) ≡ read_from place from
      (made ++ chunk ∷ []) pages rest
  inner_page known made chunk rest more size which =
      let fits : PageFits place (length made) pages chunk =
      record { place_fits = place_fits; within = omega arith; pages_fits = pages_fits; chunk_fits = size } in
      let p = page_of place (length made) pages chunk in
      let field = pages_field_is place (length made) pages chunk fits in
      let not_all : length made + 1 ≢ pages_field p = λ is. omega arith in
      next_page place from known made p rest (whole_next known made chunk fits which)
      ∙ cond-false (length made + 1 == pages_field p) _ _ (ne_eqb _ _ not_all)
      ∙ ap (λ c. read_from place from (made ++ c ∷ []) (pages_field p) rest)
      (chunk_field_is place (length made) pages chunk fits)
      ∙ ap (λ n. read_from place from (made ++ chunk ∷ []) n rest) field

  -- what is read of the rest of a block, and of what stands behind it
  pub whole_read : (known : ℕ) (made : Block) (chunk : List ℕ) (chunks : Block) (rest : List Page) →
      length made + suc (length chunks) ≡ pages → length chunk ≡ 4072 → AllByRecursion (λ c. length c ≡ 4072) chunks →
      (known ≡ 0) ⊎ (known ≡ pages)
      → read_from place from made known (pages_from place (length made) pages (chunk ∷ chunks) ++ rest) ≡ read_whole
      place from (made ++ chunk ∷ chunks) rest
  whole_read known made chunk [] rest count size sizes which = last_page known made chunk rest (omega arith) size which
  whole_read known made chunk (c ∷ chunks) rest count size sizes which =
      let longer : length (made ++ chunk ∷ []) ≡ length made + 1 = length_push made chunk in
      let later = whole_read pages (made ++ chunk ∷ []) c chunks rest (omega arith) sizes.0 sizes.1 (inr refl) in
      inner_page known made chunk (pages_from place (length made + 1) pages (c ∷ chunks) ++ rest) (omega arith) size
      which
      ∙ ap (λ n. read_from place from (made ++ chunk ∷ []) pages (pages_from place n pages (c ∷ chunks) ++ rest))
      (sym longer)
      ∙ later
      ∙ ap (λ (b : Block). read_whole place from b rest) (append_assoc made (chunk ∷ []) (c ∷ chunks))

  -- where bytes of the rest of a block are lost, it is not read, or none are lost
  pub torn_read : (known n : ℕ) (made : Block) (chunk : List ℕ) (chunks : Block) (left : List Page) →
      length made + suc (length chunks) ≡ pages → length chunk ≡ 4072 → AllByRecursion (λ c. length c ≡ 4072) chunks →
      (known ≡ 0) ⊎ (known ≡ pages)
      → LostPages (pages_from place (length made) pages (chunk ∷ chunks)) left
      → (left ≡ pages_from place (length made) pages (chunk ∷ chunks)) ⊎
      (read_from place from made known (left ++ replicate n blank_page) ≡ Ok [])
  torn_read known n made chunk chunks [] count size sizes which lost = absurd lost
  torn_read known n made chunk [] (q ∷ r ∷ left) count size sizes which lost = absurd lost.1
  torn_read known n made chunk [] (q ∷ []) count size sizes which lost =
      let fits : PageFits place (length made) pages chunk =
      record { place_fits = place_fits; within = omega arith; pages_fits = pages_fits; chunk_fits = size } in
      let p = page_of place (length made) pages chunk in
      let torn : could_be_torn place (length made) known (to_be_bytes w32 known) (q ∷ replicate n blank_page) ≡
      true =
      lost_could_be_torn place (length made) pages known n (chunk ∷ []) (q ∷ []) place_fits pages_fits count (
        size,
        sizes,
      ) which lost in
      elim (losses p q (length-page_of place (length made) pages chunk fits) lost.0
      (is_whole_page place (length made) pages chunk fits)) [
        | inl same ↦ inl (ap (λ (r : Page). r ∷ []) same)
        | inr (inl blank) ↦ inr (torn_end place from known made q (replicate n blank_page) (ap is_whole blank) torn)
        | inr (inr short) ↦ inr (torn_end place from known made q (replicate n blank_page) (ap is_whole short) torn)
      ]
  torn_read known n made chunk (c ∷ chunks) (q ∷ left) count size sizes which lost =
      let fits : PageFits place (length made) pages chunk =
      record { place_fits = place_fits; within = omega arith; pages_fits = pages_fits; chunk_fits = size } in
      let p = page_of place (length made) pages chunk in
      let rest = left ++ replicate n blank_page in
      let torn : could_be_torn place (length made) known (to_be_bytes w32 known) (q ∷ rest) ≡ true =
      lost_could_be_torn place (length made) pages known n (chunk ∷ c ∷ chunks) (q ∷ left) place_fits pages_fits count
      (size, sizes) which lost in
      let longer : length (made ++ chunk ∷ []) ≡ length made + 1 = length_push made chunk in
      let lost' = subst (λ m. LostPages (pages_from place m pages (c ∷ chunks)) left) (sym longer) lost.1 in
      let later = torn_read pages n (made ++ chunk ∷ []) c chunks left (omega arith) sizes.0 sizes.1 (inr refl) lost' in
      elim (losses p q (length-page_of place (length made) pages chunk fits) lost.0
      (is_whole_page place (length made) pages chunk fits)) [
        | inl same ↦
            let here : read_from place from made known (q ∷ rest) ≡ read_from place from (made ++ chunk ∷ []) pages rest
            =
            ap (λ (r : Page). read_from place from made known (r ∷ rest)) same
            ∙ inner_page known made chunk rest (omega arith) size which in
            ⊎_elim
            (λ whole.
            let whole' : left ≡ pages_from place (length made + 1) pages (c ∷ chunks) =
            whole ∙ ap (λ m. pages_from place m pages (c ∷ chunks)) longer in
            inl (ap (λ (r : Page). r ∷ left) same
            ∙ ap (λ (l : List Page). page_of place (length made) pages chunk ∷ l) whole'))
            (λ none. inr (here ∙ none))
            later
        | inr (inl blank) ↦ inr (torn_end place from known made q rest (ap is_whole blank) torn)
        | inr (inr short) ↦ inr (torn_end place from known made q rest (ap is_whole short) torn)
      ]

-- ---- a whole log, and one whose last block lost bytes

pub with_blocks_ok : (blocks more : List Block) → with_blocks blocks (Ok more) ≡ Ok (blocks ++ more)
with_blocks_ok [] more = refl
with_blocks_ok (block ∷ blocks) more = ap (with_block block) (with_blocks_ok blocks more)

pub with_blocks_err : (blocks : List Block) (fault : LogFault) → with_blocks blocks (Err fault) ≡ Err fault
with_blocks_err [] fault = refl
with_blocks_err (block ∷ blocks) fault = ap (with_block block) (with_blocks_err blocks fault)

pub block_read : (place from : ℕ) (block : Block) (rest : List Page) → place < 2 ^ 64 → FillsPages block →
    read_from place from [] 0 (block_pages place block ++ rest) ≡ read_whole place from block rest
block_read place from [] rest place_fits is = absurd (omega (arith, is.some))
block_read place from (chunk ∷ chunks) rest place_fits is =
    whole_read place from (suc (length chunks)) place_fits is.few 0 [] chunk chunks rest (omega arith) is.each.0
    is.each.1 (inl refl)

-- a place is no higher than that behind the blocks from it on
pub place-le : (place : ℕ) (blocks : List Block) → place ≤ place_behind place blocks
place-le place [] = omega arith
place-le place (block ∷ blocks) = omega (arith, place-le (place + batches_in block) blocks)

pub length-pages_from : (place page pages : ℕ) (chunks : Block) →
    length (pages_from place page pages chunks) ≡ length chunks
length-pages_from place page pages [] = refl
length-pages_from place page pages (chunk ∷ chunks) = omega (arith, length-pages_from place (page + 1) pages chunks)

pub log_read : (place from : ℕ) (blocks : List Block) (rest : List Page) → place_behind place blocks < 2 ^ 64 →
    AllByRecursion IsBlock blocks
    → read_from place from [] 0 (log_pages place blocks ++ rest) ≡ with_blocks blocks
    (read_from (place_behind place blocks) (from + length (log_pages place blocks)) [] 0 rest)
log_read place from [] rest fits are =
    let same : from ≡ from + 0 = omega arith in ap (λ n. read_from place n [] 0 rest) same
log_read place from (block ∷ blocks) rest fits are =
    let behind = place + batches_in block in
    let later = log_pages behind blocks in
    let pages : length (block_pages place block) ≡ length block = length-pages_from place 0 (length block) block in
    let moved : from + length block + length later ≡ from + length (block_pages place block ++ later) =
    omega (arith, length-append (block_pages place block) later) in
    ap (read_from place from [] 0) (append_assoc (block_pages place block) later rest)
    ∙ block_read place from block (later ++ rest) (omega (arith, place-le behind blocks)) are.0.fills
    ∙ cond-true (is_sound block) _ _ are.0.sound
    ∙ ap (with_block block) (log_read behind (from + length block) blocks rest fits are.1)
    ∙ ap (λ n. with_block block (with_blocks blocks (read_from (place_behind behind blocks) n [] 0 rest))) moved

-- the blocks, with the new one or without it
pub torn_log_read : (first : ℕ) (blocks : List Block) (new : Block) (left : List Page) (n : ℕ) →
    place_behind first blocks < 2 ^ 64 → AllByRecursion IsBlock blocks → IsBlock new →
    LostPages (block_pages (place_behind first blocks) new) left
    → (read_pages first (log_pages first blocks ++ (left ++ replicate n blank_page)) ≡ Ok blocks) ⊎
    ((left ≡ block_pages (place_behind first blocks) new) ×
    (read_pages first (log_pages first blocks ++ (left ++ replicate n blank_page)) ≡ Ok (blocks ++ new ∷ [])))
torn_log_read first blocks [] left n fits are is lost = absurd (omega (arith, is.fills.some))
torn_log_read first blocks (chunk ∷ chunks) left n fits are is lost =
    let rest = left ++ replicate n blank_page in
    let place = place_behind first blocks in
    let from = 1 + length (log_pages first blocks) in
    let start : read_pages first (log_pages first blocks ++ rest) ≡ with_blocks blocks (read_from place from [] 0 rest)
    = log_read first 1 blocks rest fits are in
    elim (torn_read place from (suc (length chunks)) fits is.fills.few 0 n [] chunk chunks left (omega arith)
    is.fills.each.0 is.fills.each.1 (inl refl) lost) [
      | inr none ↦ inl (start ∙ ap (with_blocks blocks) none ∙ with_blocks_ok blocks [] ∙ ap Ok (append-nil blocks))
      | inl whole ↦
          let read : read_from place from [] 0 rest ≡ Ok ((chunk ∷ chunks) ∷ []) =
          ap (λ (l : List Page). read_from place from [] 0 (l ++ replicate n blank_page)) whole
          ∙ block_read place from (chunk ∷ chunks) (replicate n blank_page) fits is.fills
          ∙ cond-true (is_sound (chunk ∷ chunks)) _ _ is.sound
          ∙ ap (with_block (chunk ∷ chunks))
          (blank_read (place + batches_in (chunk ∷ chunks)) (from + length (chunk ∷ chunks)) 0 n []) in
          inr (whole, start ∙ ap (with_blocks blocks) read ∙ with_blocks_ok blocks ((chunk ∷ chunks) ∷ []))
    ]

-- a log with nothing behind it but blank pages
pub settled_log_read : (first : ℕ) (blocks : List Block) (n : ℕ) → place_behind first blocks < 2 ^ 64 →
    AllByRecursion IsBlock blocks → read_pages first (log_pages first blocks ++ replicate n blank_page) ≡ Ok blocks
settled_log_read first blocks n fits are =
    log_read first 1 blocks (replicate n blank_page) fits are
    ∙ ap (with_blocks blocks) (blank_read (place_behind first blocks) (1 + length (log_pages first blocks)) 0 n [])
    ∙ with_blocks_ok blocks []
    ∙ ap Ok (append-nil blocks)

-- One page more of a scan.
use Rattle.std.proofs.Common.{◌≡◌, ◌≢◌, inl, inr, ℕ, ◌+◌, ◌-◌, ◌*◌, ◌<◌, ◌≤◌, Bool, true, false, cond, List, [], ◌∷◌, ◌++◌, length, take, drop, refl, sym, ◌∙◌, ap, subst, arith, append_assoc, length-append}
use Rattle.std.specs.Prelude.{◌==◌, ◌&&◌, not, Result, Ok, Err}
use Rattle.std.specs.Int.{w32, w64, to_be_bytes, from_be_bytes}
use Rattle.std.proofs.lemmas.Bool.{and_parts, and_from, not-true, eq-eqb, ne_eqb, cases_Bool, cond-true, cond-false}
use Rattle.std.proofs.lemmas.List.{append-nil, length_push, drop-append-le, drop_all}
use Rattle.std.proofs.lemmas.List.Sums.{sum_by-append}
use Rattle.log_page.specs.Pages.{kind_of, pages_field, chunk_field, is_next, is_whole}
use Rattle.log_page.specs.declared.page.PageKind.{PageKind}
use Rattle.log_page.specs.declared.page.PageKind.TheVariants.{Empty, Whole, Short, Spoilt}
use Rattle.log_blocks.specs.Blocks.{Page, Block, batches_in, can_have, is_sound, block_pages, log_pages}
use Rattle.log_blocks.specs.Reading.{is_allowed, known_pages, known_shown, used_by, could_be_torn, damaged_at, with_block, with_blocks, ended, read_from, read_pages, fault_at}
use Rattle.log_blocks.specs.Files.{bytes_from, pages_of, page_count, recovered}
use Rattle.log_blocks.specs.Scanning.{HasTaken, IsScanned, goes_on, is_next_whole, last_begin, used_pages}
use Rattle.log_blocks.specs.declared.fault.LogFault.{LogFault}
use Rattle.log_blocks.specs.declared.fault.LogKind.TheVariants.{Damaged, BadBlock}
use Rattle.log_blocks.specs.declared.scan.BlockScan.{BlockScan}
use Rattle.log_blocks.proofs.Torn.{next_page, other_page, read_whole, none_read, with_blocks_err, with_blocks_ok, length-pages_from}
use Rattle.log_blocks.proofs.FilePages.{page_total, place_push, pages_split, pages_step, next_file_page}

-- ---- lists

with_blocks_push : (blocks : List Block) (block : Block) (r : Result (List Block) LogFault) →
    with_blocks blocks (with_block block r) ≡ with_blocks (blocks ++ block ∷ []) r
with_blocks_push [] block r = refl
with_blocks_push (b ∷ blocks) block r = ap (with_block b) (with_blocks_push blocks block r)

last_push : (first page last : ℕ) (blocks : List Block) (block : Block) →
    last_begin page last (blocks ++ block ∷ []) ≡ page + length (log_pages first blocks)
last_push first page last [] block = omega arith
last_push first page last (b ∷ blocks) block =
    let later = log_pages (first + batches_in b) blocks in
    omega (
      arith,
      last_push (first + batches_in b) (page + length b) page blocks block,
      length-append (block_pages first b) later,
      length-pages_from first 0 (length b) b,
    )

used_append : (xs ys : List Page) → used_pages (xs ++ ys) ≡ used_pages xs + used_pages ys
used_append xs ys = sum_by-append (λ p. used_by (kind_of p)) xs ys

used_one : (p : Page) → used_pages (p ∷ []) ≡ used_by (kind_of p)
used_one p = omega arith

-- a whole page is used
used_of : (k : PageKind) → is_whole k ≡ true → used_by k ≡ 1
used_of Whole is = refl
used_of Empty is = absurd (wrong is)
  where
    wrong : false ≡ true → ⊥
    wrong h = cc
used_of Short is = refl
used_of Spoilt is = refl

pub used_more : (n : ℕ) (taken : List Page) (p : Page) → n ≤ length taken →
    used_pages (drop n (taken ++ p ∷ [])) ≡ used_pages (drop n taken) + used_by (kind_of p)
used_more n taken p le = ap used_pages (drop-append-le n taken (p ∷ []) le) ∙ used_append (drop n taken) (p ∷ [])
    ∙ ap (λ k. used_pages (drop n taken) + k) (used_one p)

-- ---- a page that isn't the next whole one

torn_page : (place page known : ℕ) (shown : List ℕ) (p : Page) (ps : List Page) →
    is_allowed (kind_of p) place page known shown p ≡ true →
    could_be_torn place page known shown (p ∷ ps) ≡
    could_be_torn place (page + 1) (known_pages (kind_of p) known p) (known_shown (kind_of p) shown p) ps
unfolding could_be_torn
torn_page place page known shown p ps stands =
    ap (λ b. b && could_be_torn place (page + 1) (known_pages (kind_of p) known p) (known_shown (kind_of p) shown p) ps)
    stands

damaged_page : (place page known : ℕ) (shown : List ℕ) (p : Page) (ps : List Page) →
    is_allowed (kind_of p) place page known shown p ≡ true →
    damaged_at place page known shown (p ∷ ps) ≡
    damaged_at place (page + 1) (known_pages (kind_of p) known p) (known_shown (kind_of p) shown p) ps
unfolding damaged_at
damaged_page place page known shown p ps stands =
    cond-true (is_allowed (kind_of p) place page known shown p) _ _ stands

ended_allowed : (place from page known : ℕ) (shown : List ℕ) (p : Page) (ps : List Page) →
    is_allowed (kind_of p) place page known shown p ≡ true →
    ended place from page known shown (p ∷ ps) ≡
    ended place from (page + 1) (known_pages (kind_of p) known p) (known_shown (kind_of p) shown p) ps
ended_allowed place from page known shown p ps stands =
    ap (λ b. cond b (Ok []) (Err (fault_at Damaged (from + damaged_at place page known shown (p ∷ ps)))))
    (torn_page place page known shown p ps stands)
    ∙ ap (λ n. cond (could_be_torn place (page + 1) (known_pages (kind_of p) known p)
    (known_shown (kind_of p) shown p) ps) (Ok []) (Err (fault_at Damaged (from + n))))
    (damaged_page place page known shown p ps stands)

ended_refused : (place from page known : ℕ) (shown : List ℕ) (p : Page) (ps : List Page) →
    is_allowed (kind_of p) place page known shown p ≡ false →
    ended place from page known shown (p ∷ ps) ≡ Err (fault_at Damaged (from + page))
unfolding could_be_torn damaged_at
ended_refused place from page known shown p ps falls =
    cond-false (could_be_torn place page known shown (p ∷ ps)) _ _
    (ap (λ b. b && could_be_torn place (page + 1) (known_pages (kind_of p) known p)
    (known_shown (kind_of p) shown p) ps) falls)
    ∙ ap (λ n. Err (fault_at Damaged (from + n)))
    (cond-false (is_allowed (kind_of p) place page known shown p)
    (damaged_at place (page + 1) (known_pages (kind_of p) known p) (known_shown (kind_of p) shown p) ps) page falls)

module _ (first : ℕ) (s : BlockScan) (blocks : List Block) (made : Block) (taken : List Page)
    (has : HasTaken first s blocks made taken) (p : Page) where
  within : length (log_pages first blocks) ≤ length taken
  within = omega (arith, has.begins, has.taken_long)

  -- what is read from this page on
  from_here : (rest : List Page) → read_pages first (taken ++ p ∷ rest) ≡ with_blocks blocks (goes_on s made (p ∷ rest))
  from_here rest = has.reads (p ∷ rest)

  goes_ended : (s.torn ≡ false → (is_whole (kind_of p) && is_next s.place s.made s.pages p) ≡ false) →
      (rest : List Page) → goes_on s made (p ∷ rest) ≡ ended s.place s.page s.made s.pages s.shown (p ∷ rest)
  goes_ended other rest =
      elim (cases_Bool s.torn) [
        | inl torn ↦ cond-true s.torn _ _ torn
        | inr not ↦
            let long = has.made_long not in
            cond-false s.torn _ _ not
            ∙ other_page s.place s.page s.pages made p rest
            (ap (λ n. is_whole (kind_of p) && is_next s.place n s.pages p) long ∙ other not)
            ∙ ap (λ n. ended s.place s.page n s.pages (to_be_bytes w32 s.pages) (p ∷ rest)) long
            ∙ ap (λ (l : List ℕ). ended s.place s.page s.made s.pages l (p ∷ rest)) (sym (has.shown not))
      ]

  pub torn_taken : (s.torn ≡ false → (is_whole (kind_of p) && is_next s.place s.made s.pages p) ≡ false) →
      is_allowed (kind_of p) s.place s.made s.pages s.shown p ≡ true
      → (after : BlockScan) → after.place ≡ s.place → after.page ≡ s.page → after.last ≡ s.last →
      after.made ≡ s.made + 1 → after.pages ≡ known_pages (kind_of p) s.pages p →
      after.shown ≡ known_shown (kind_of p) s.shown p → after.torn ≡ true
      → after.used ≡ s.used + used_by (kind_of p)
      → HasTaken first after blocks made (taken ++ p ∷ [])
  torn_taken other stands after place page last count pages shown torn used =
      let reads : (rest : List Page) →
      read_pages first ((taken ++ p ∷ []) ++ rest) ≡ with_blocks blocks (goes_on after made rest) =
      λ rest. ap (read_pages first) (append_assoc taken (p ∷ []) rest) ∙ from_here rest ∙ ap (with_blocks blocks) (
      goes_ended other rest
      ∙ ended_allowed s.place s.page s.made s.pages s.shown p rest stands
      ∙ sym (
      cond-true after.torn _ _ torn
      ∙ ap (λ n. ended n after.page after.made after.pages after.shown rest) place
      ∙ ap (λ n. ended s.place n after.made after.pages after.shown rest) page
      ∙ ap (λ n. ended s.place s.page n after.pages after.shown rest) count
      ∙ ap (λ n. ended s.place s.page (s.made + 1) n after.shown rest) pages
      ∙ ap (λ (l : List ℕ). ended s.place s.page (s.made + 1) (known_pages (kind_of p) s.pages p) l rest) shown
      )
      ) in
      record {
        reads = reads;
        places = place ∙ has.places;
        begins = page ∙ has.begins;
        lasts = last ∙ has.lasts;
        made_long = λ not. absurd (wrong (sym torn ∙ not));
        shown = λ not. absurd (wrong (sym torn ∙ not));
        told = λ not. absurd (wrong (sym torn ∙ not));
        taken_long = omega (arith, has.taken_long, page, count, length_push taken p);
        used = used ∙ ap (λ n. n + used_by (kind_of p)) has.used
            ∙ sym (used_more (length (log_pages first blocks)) taken p within);
      }
    where
      wrong : true ≡ false → ⊥
      wrong h = cc

  pub torn_refused : (s.torn ≡ false → (is_whole (kind_of p) && is_next s.place s.made s.pages p) ≡ false) →
      is_allowed (kind_of p) s.place s.made s.pages s.shown p ≡ false
      → (rest : List Page) → read_pages first (taken ++ p ∷ rest) ≡ Err (fault_at Damaged (s.page + s.made))
  torn_refused other falls rest =
      from_here rest
      ∙ ap (with_blocks blocks) (goes_ended other rest
      ∙ ended_refused s.place s.page s.made s.pages s.shown p rest falls)
      ∙ with_blocks_err blocks (fault_at Damaged (s.page + s.made))

  -- ---- the next whole page
  module _ (not : s.torn ≡ false) (here : (is_whole (kind_of p) && is_next s.place s.made s.pages p) ≡ true)
      (batches : ℕ)
      (none : s.made ≡ 0 → batches ≡ from_be_bytes w64 (take 8 (chunk_field p))) (some : s.made ≢ 0 →
      batches ≡ s.batches) where
    block : Block
    block = made ++ chunk_field p ∷ []

    long : length made ≡ s.made
    long = has.made_long not

    goes_whole : (rest : List Page) →
        goes_on s made (p ∷ rest) ≡ cond (length made + 1 == pages_field p)
        (read_whole s.place s.page (made ++ chunk_field p ∷ []) rest)
        (read_from s.place s.page (made ++ chunk_field p ∷ []) (pages_field p) rest)
    goes_whole rest =
        cond-false s.torn _ _ not
        ∙ next_page s.place s.page s.pages made p rest
        (ap (λ n. is_whole (kind_of p) && is_next s.place n s.pages p) long ∙ here)

    is_used : used_by (kind_of p) ≡ 1
    is_used = used_of (kind_of p) (and_parts (is_whole (kind_of p)) (is_next s.place s.made s.pages p) here).0

    told_first : (m : Block) → (length m ≡ 0 → batches ≡ from_be_bytes w64 (take 8 (chunk_field p))) →
        (length m ≢ 0 → batches ≡ batches_in m) → batches_in (m ++ chunk_field p ∷ []) ≡ batches
    unfolding batches_in
    told_first [] first_told later_told = sym (first_told refl)
    told_first (c ∷ m) first_told later_told = sym (later_told (λ is. omega arith))

    pub told_of : batches_in (made ++ chunk_field p ∷ []) ≡ batches
    told_of =
        told_first made (λ is. none (sym long ∙ is))
        (λ not_none. some (λ is. not_none (long ∙ is)) ∙ sym (has.told not (omega arith)))

    pub part_taken : s.made + 1 ≢ pages_field p → (after : BlockScan) → after.place ≡ s.place → after.page ≡ s.page →
        after.last ≡ s.last → after.made ≡ s.made + 1 → after.pages ≡ pages_field p →
        after.shown ≡ to_be_bytes w32 (pages_field p) → after.batches ≡ batches → after.torn ≡ false →
        after.used ≡ s.used + 1
        → HasTaken first after blocks (made ++ chunk_field p ∷ []) (taken ++ p ∷ [])
    part_taken inner after place page last count pages shown batch torn used =
        let more : (length made + 1 == pages_field p) ≡ false =
        ne_eqb _ _ (λ is. inner (ap (λ n. n + 1) (sym long) ∙ is)) in
        let reads : (rest : List Page) →
        read_pages first ((taken ++ p ∷ []) ++ rest) ≡ with_blocks blocks
        (goes_on after (made ++ chunk_field p ∷ []) rest) =
        λ rest. ap (read_pages first) (append_assoc taken (p ∷ []) rest) ∙ from_here rest ∙ ap (with_blocks blocks) (
        goes_whole rest
        ∙ cond-false (length made + 1 == pages_field p) _ _ more
        ∙ sym (
        cond-false after.torn _ _ torn
        ∙ ap (λ n. read_from n after.page (made ++ chunk_field p ∷ []) after.pages rest) place
        ∙ ap (λ n. read_from s.place n (made ++ chunk_field p ∷ []) after.pages rest) page
        ∙ ap (λ n. read_from s.place s.page (made ++ chunk_field p ∷ []) n rest) pages
        )
        ) in
        record {
          reads = reads;
          places = place ∙ has.places;
          begins = page ∙ has.begins;
          lasts = last ∙ has.lasts;
          made_long = λ is. omega (arith, length_push made (chunk_field p), long, count);
          shown = λ is. shown ∙ ap (to_be_bytes w32) (sym pages);
          told = λ is has_some. told_of ∙ sym batch;
          taken_long = omega (arith, has.taken_long, page, count, length_push taken p);
          used = used ∙ ap (λ n. n + 1) has.used
              ∙ ap (λ n. used_pages (drop (length (log_pages first blocks)) taken) + n) (sym is_used)
              ∙ sym (used_more (length (log_pages first blocks)) taken p within);
        }

    count_is : s.made + 1 ≡ pages_field p → length (made ++ chunk_field p ∷ []) ≡ pages_field p
    count_is all = length_push made (chunk_field p) ∙ ap (λ n. n + 1) long ∙ all

    pub sound_is : s.made + 1 ≡ pages_field p → is_sound (made ++ chunk_field p ∷ []) ≡ can_have batches (pages_field p)
    unfolding is_sound
    sound_is all = ap (λ n. can_have n (length (made ++ chunk_field p ∷ []))) told_of
        ∙ ap (can_have batches) (count_is all)

    module _ (all : s.made + 1 ≡ pages_field p) where
      closes : (length made + 1 == pages_field p) ≡ true
      closes = eq-eqb _ _ (ap (λ n. n + 1) long ∙ all)

      pub bad_refused : is_sound (made ++ chunk_field p ∷ []) ≡ false → (rest : List Page) →
          read_pages first (taken ++ p ∷ rest) ≡ Err (fault_at BadBlock s.page)
      bad_refused unsound rest =
          from_here rest
          ∙ ap (with_blocks blocks) (goes_whole rest ∙ cond-true (length made + 1 == pages_field p) _ _ closes
          ∙ cond-false (is_sound (made ++ chunk_field p ∷ [])) _ _ unsound)
          ∙ with_blocks_err blocks (fault_at BadBlock s.page)

      pub last_taken : is_sound (made ++ chunk_field p ∷ []) ≡ true → (after : BlockScan) →
          after.place ≡ s.place + batches → after.page ≡ s.page + pages_field p → after.last ≡ s.page → after.made ≡ 0 →
          after.pages ≡ 0 → after.shown ≡ to_be_bytes w32 0 → after.torn ≡ false → after.used ≡ 0
          → HasTaken first after (blocks ++ (made ++ chunk_field p ∷ []) ∷ []) [] (taken ++ p ∷ [])
      last_taken sound after place page last count pages shown torn used =
          let b = made ++ chunk_field p ∷ [] in
          let total = page_total first blocks b in
          let places : s.place + batches_in b ≡ after.place = ap (λ n. s.place + n) told_of ∙ sym place in
          let begins : s.page + length b ≡ after.page = ap (λ n. s.page + n) (count_is all) ∙ sym page in
          let taken_all : length (taken ++ p ∷ []) ≤ length (log_pages first (blocks ++ b ∷ [])) =
          omega (arith, total, count_is all, all, has.begins, has.taken_long, length_push taken p) in
          let reads : (rest : List Page) →
          read_pages first ((taken ++ p ∷ []) ++ rest) ≡ with_blocks (blocks ++ b ∷ []) (goes_on after [] rest) =
          λ rest. ap (read_pages first) (append_assoc taken (p ∷ []) rest) ∙ from_here rest
          ∙ ap (with_blocks blocks) (
          goes_whole rest
          ∙ cond-true (length made + 1 == pages_field p) _ _ closes
          ∙ cond-true (is_sound b) _ _ sound
          ∙ ap (with_block b) (
          ap (λ n. read_from n (s.page + length b) [] 0 rest) places
          ∙ ap (λ n. read_from after.place n [] 0 rest) begins
          ∙ ap (λ n. read_from after.place after.page [] n rest) (sym pages)
          ∙ sym (cond-false after.torn _ _ torn)
          )
          )
          ∙ with_blocks_push blocks b (goes_on after [] rest) in
          record {
            reads = reads;
            places = sym places ∙ ap (λ n. n + batches_in b) has.places ∙ sym (place_push first blocks b);
            begins = sym begins ∙ omega (arith, total, has.begins);
            lasts = last ∙ has.begins ∙ sym (last_push first 1 0 blocks b);
            made_long = λ is. sym count;
            shown = λ is. shown ∙ ap (to_be_bytes w32) (sym pages);
            told = λ is has_some. absurd (omega arith);
            taken_long = omega (arith, has.taken_long, page, count, all, length_push taken p);
            used = used ∙ sym (ap used_pages (drop_all (length (log_pages first (blocks ++ b ∷ []))) (taken ++ p ∷ [])
                taken_all));
          }

-- ---- what the tests of a page say

other_at : (t a b : Bool) → (not t && a && b) ≡ false → t ≡ false → (a && b) ≡ false
other_at true a b h t = absurd (wrong t)
  where
    wrong : true ≡ false → ⊥
    wrong e = cc
other_at false a b h t = h

pub other_of : (s : BlockScan) (k : PageKind) (p : Page) → is_next_whole s k p ≡ false → s.torn ≡ false →
    (is_whole k && is_next s.place s.made s.pages p) ≡ false
other_of s k p other = other_at s.torn (is_whole k) (is_next s.place s.made s.pages p) other

pub untorn_of : (s : BlockScan) (k : PageKind) (p : Page) → is_next_whole s k p ≡ true → s.torn ≡ false
untorn_of s k p next = not-true s.torn
    (and_parts (not s.torn) (is_whole k) (and_parts (not s.torn && is_whole k) (is_next s.place s.made s.pages p)
    next).0).0

pub whole_of : (s : BlockScan) (k : PageKind) (p : Page) → is_next_whole s k p ≡ true →
    (is_whole k && is_next s.place s.made s.pages p) ≡ true
whole_of s k p next =
    let last = and_parts (not s.torn && is_whole k) (is_next s.place s.made s.pages p) next in
    and_from (is_whole k) (is_next s.place s.made s.pages p) (and_parts (not s.torn) (is_whole k) last.0).1 last.1

-- ---- the pages of a file

goes_end : (s : BlockScan) (made : Block) → goes_on s made [] ≡ Ok []
unfolding could_be_torn
goes_end s made =
    elim (cases_Bool s.torn) [
      | inl torn ↦ cond-true s.torn _ _ torn
      | inr not ↦ cond-false s.torn _ _ not ∙ none_read s.place s.page s.pages made
    ]

pub scanned_all : (first : ℕ) (s : BlockScan) (blocks : List Block) (made : Block) (taken : List Page) →
    HasTaken first s blocks made taken → IsScanned first taken s blocks
scanned_all first s blocks made taken has = record {
  read =
      ap (read_pages first) (sym (append-nil taken))
      ∙ has.reads []
      ∙ ap (with_blocks blocks) (goes_end s made)
      ∙ with_blocks_ok blocks []
      ∙ ap Ok (append-nil blocks);
  places = has.places;
  begins = has.begins;
  lasts = has.lasts;
  used = has.used;
}

pub taken_step : (first : ℕ) (s : BlockScan) (blocks : List Block) (made : Block) (i : ℕ) (file page : List ℕ) →
    page ≡ bytes_from (4096 * i) 4096 file → HasTaken first s blocks made (pages_of 0 i file ++ page ∷ []) →
    HasTaken first s blocks made (pages_of 0 (i + 1) file)
taken_step first s blocks made i file page is has =
    let P : List Page → Type 0 = λ l. HasTaken first s blocks made l in
    subst P (ap (λ (p : Page). pages_of 0 i file ++ p ∷ []) is ∙ sym (pages_step i file)) has

pub none_taken_of : (first : ℕ) (s : BlockScan) (file : List ℕ) → HasTaken first s [] [] [] →
    HasTaken first s [] [] (pages_of 0 0 file)
unfolding pages_of
none_taken_of first s file has = has

pub file_fault : (first i : ℕ) (file page : List ℕ) (fault : LogFault) → i < page_count file →
    page ≡ bytes_from (4096 * i) 4096 file →
    ((rest : List Page) → read_pages first (pages_of 0 i file ++ page ∷ rest) ≡ Err fault) →
    recovered first file ≡ Err fault
unfolding recovered
file_fault first i file page fault lt is told =
    let count = page_count file in
    let more : i + (count - i) ≡ count = omega arith in
    let none : 0 + i ≡ i = omega arith in
    let rest = pages_of (i + 1) (count - (i + 1)) file in
    ap (λ n. read_pages first (pages_of 0 n file)) (sym more)
    ∙ ap (read_pages first) (
    pages_split 0 i (count - i) file
    ∙ ap (λ n. pages_of 0 i file ++ pages_of n (count - i) file) none
    ∙ ap (λ (l : List Page). pages_of 0 i file ++ l) (next_file_page i count file lt
    ∙ ap (λ (p : Page). p ∷ rest) (sym is))
    )
    ∙ told rest

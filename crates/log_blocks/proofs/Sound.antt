-- What is read is the log of the blocks that were read, and behind it what could be one in the making; and a fault is
-- the
-- first one.
use Rattle.std.proofs.Common.{◌≡◌, ◌≢◌, ◌⊎◌, inl, inr, ⊎_elim, ℕ, suc, ◌+◌, ◌^◌, ◌<◌, Bool, true, false, cond, List, [], ◌∷◌, ◌++◌, length, refl, sym, ◌∙◌, ap, subst, arith, append_assoc, length-append}
use Rattle.std.specs.Prelude.{◌==◌, ◌&&◌, Result, Ok, Err}
use Rattle.std.specs.Int.{w32, to_be_bytes}
use Rattle.std.specs.List.{AllByRecursion}
use Rattle.std.proofs.lemmas.Bool.{and_parts, and_from, eqb-true, eqb-false, cases_Bool, cond-true, cond-false, both_ways, ne_eqb}
use Rattle.std.proofs.lemmas.List.{append-nil, length_push, length-drop}
use Rattle.log_page.specs.Pages.{kind_of, page_of, pages_field, chunk_field, is_next, is_whole, is_lost_check, IsBytes}
use Rattle.log_page.specs.declared.page.PageKind.{PageKind}
use Rattle.log_page.specs.declared.page.PageKind.TheVariants.{Empty, Whole, Short, Spoilt}
use Rattle.log_page.proofs.Unsealed.{unsealed}
use Rattle.log_blocks.specs.Blocks.{Page, Block, batches_in, is_sound, pages_from, block_pages, log_pages, place_behind, FillsPages, IsBlock, ArePages}
use Rattle.log_blocks.specs.Reading.{is_allowed, known_pages, known_shown, could_be_torn, IsTorn, damaged_at, with_block, with_blocks, read_from, read_pages, fault_at, Reads, HasFault}
use Rattle.log_blocks.specs.declared.fault.LogFault.{LogFault}
use Rattle.log_blocks.specs.declared.fault.LogKind.TheVariants.{Damaged, BadBlock}
use Rattle.log_blocks.proofs.Counts.{small, next_pages, agreed_start, shown_lost, torn_is_left, torn_passes, torn_front}
use Rattle.log_blocks.proofs.Torn.{next_page, other_page, none_read, block_read, log_read, with_blocks_ok, length-pages_from}

whole_kind : (k : PageKind) → is_whole k ≡ true → k ≡ Whole
whole_kind Whole h = refl
whole_kind Empty h = absurd (wrong h)
  where
    wrong : false ≡ true → ⊥
    wrong h = cc
whole_kind Short h = absurd (wrong h)
  where
    wrong : false ≡ true → ⊥
    wrong h = cc
whole_kind Spoilt h = absurd (wrong h)
  where
    wrong : false ≡ true → ⊥
    wrong h = cc

pages_append : (place j n : ℕ) (xs ys : Block) →
    pages_from place j n (xs ++ ys) ≡ pages_from place j n xs ++ pages_from place (j + length xs) n ys
pages_append place j n [] ys = let same : j ≡ j + 0 = omega arith in ap (λ k. pages_from place k n ys) same
pages_append place j n (x ∷ xs) ys =
    let moved : j + 1 + length xs ≡ j + suc (length xs) = omega arith in
    ap (λ (l : List Page). page_of place j n x ∷ l) (pages_append place (j + 1) n xs ys
    ∙ ap (λ k. pages_from place (j + 1) n xs ++ pages_from place k n ys) moved)

sizes_push : (made : Block) (chunk : List ℕ) → AllByRecursion (λ c. length c ≡ 4072) made → length chunk ≡ 4072 →
    AllByRecursion (λ c. length c ≡ 4072) (made ++ chunk ∷ [])
sizes_push [] chunk sizes size = (size, tt)
sizes_push (c ∷ made) chunk sizes size = (sizes.0, sizes_push made chunk sizes.1 size)

-- how much of the next block is read: nothing, or some of its n pages
data Made (made : Block) (known n : ℕ) : Type 0 where
  None_yet : made ≡ [] → known ≡ 0 → Made made known n
  Some_of : 0 < length made → known ≡ n → length made < n → n < 2 ^ 32 → Made made known n

same_front : (place known n m : ℕ) (made : Block) → Made made known n → (known ≡ 0) ⊎ (m ≡ known) →
    pages_from place 0 n made ≡ pages_from place 0 m made
same_front place known n m made (None_yet bare none) which = ap (λ (b : Block). pages_from place 0 n b) bare
    ∙ sym (ap (λ (b : Block). pages_from place 0 m b) bare)
same_front place known n m made (Some_of some is short nf) (inl none) = absurd (omega arith)
same_front place known n m made (Some_of some is short nf) (inr same) =
    let e : n ≡ m = sym is ∙ sym same in ap (λ k. pages_from place 0 k made) e

one_more : (place m : ℕ) (made : Block) (chunk : List ℕ) (p : Page) (ps : List Page) →
    p ≡ page_of place (length made) m chunk →
    pages_from place 0 m made ++ (p ∷ ps) ≡ pages_from place 0 m (made ++ chunk ∷ []) ++ ps
one_more place m made chunk p ps is =
    let none : 0 + length made ≡ length made = omega arith in
    let pushed : pages_from place 0 m (made ++ chunk ∷ []) ≡ pages_from place 0 m made ++ page_of place (length made) m
    chunk ∷ [] =
    pages_append place 0 m made (chunk ∷ []) ∙ ap (λ k. pages_from place 0 m made ++ page_of place k m chunk ∷ []) none
    in
    ap (λ (q : Page). pages_from place 0 m made ++ (q ∷ ps)) is
    ∙ sym (ap (λ (l : List Page). l ++ ps) pushed
    ∙ append_assoc (pages_from place 0 m made) (page_of place (length made) m chunk ∷ []) ps)

-- ---- what could be torn

-- the bytes of the number of pages that a whole page has told, or 00 where none has
abbrev told_bytes : ℕ → List ℕ
told_bytes known = to_be_bytes w32 known

torn_cons : (place page known : ℕ) (shown : List ℕ) (p : Page) (ps : List Page) →
    could_be_torn place page known shown (p ∷ ps) ≡
    (is_allowed (kind_of p) place page known shown p &&
    could_be_torn place (page + 1) (known_pages (kind_of p) known p) (known_shown (kind_of p) shown p) ps)
unfolding could_be_torn
torn_cons place page known shown p ps = refl

torn_none : (place page known : ℕ) (shown : List ℕ) → could_be_torn place page known shown [] ≡ true
unfolding could_be_torn
torn_none place page known shown = refl

-- a whole page that is next says nothing against those behind it
torn_whole : (place page known : ℕ) (p : Page) (ps : List Page) → kind_of p ≡ Whole →
    is_next place page known p ≡ true →
    could_be_torn place page known (told_bytes known) (p ∷ ps) ≡
    could_be_torn place (page + 1) (pages_field p) (told_bytes (pages_field p)) ps
torn_whole place page known p ps whole next =
    let which : (known ≡ 0) ⊎ (known ≡ pages_field p) =
    ⊎_elim (λ none. inl none) (λ is. inr (sym is)) (next_pages place page known p next).1 in
    let told = agreed_start (pages_field p) known which in
    let stands : is_allowed Whole place page known (told_bytes known) p ≡ true =
    and_from (is_next place page known p) (is_lost_check (told_bytes known) (to_be_bytes w32 (pages_field p))) next
    (shown_lost (pages_field p) (told_bytes known) told.left) in
    torn_cons place page known (told_bytes known) p ps
    ∙ ap (λ k. is_allowed k place page known (told_bytes known) p && could_be_torn place (page + 1)
    (known_pages k known p) (known_shown k (told_bytes known) p) ps) whole
    ∙ ap (λ b. b && could_be_torn place (page + 1) (pages_field p) (told_bytes (pages_field p)) ps) stands

-- where pages couldn't be torn, the first that may not stand, and those before it and behind it
record Parted (place page known : ℕ) (shown : List ℕ) (ps : List Page) : Type 0 where
  front : List Page
  bad : Page
  behind : List Page
  whole : ps ≡ front ++ bad ∷ behind
  torn : could_be_torn place page known shown front ≡ true
  refused : could_be_torn place page known shown (front ++ bad ∷ []) ≡ false
  numbered : damaged_at place page known shown ps ≡ page + length front

parted : (place page known : ℕ) (shown : List ℕ) (ps : List Page) → could_be_torn place page known shown ps ≡ false →
    Parted place page known shown ps
unfolding could_be_torn damaged_at
parted place page known shown [] not = absurd (wrong not)
  where
    wrong : true ≡ false → ⊥
    wrong h = cc
parted place page known shown (p ∷ ps) not =
    let more = known_pages (kind_of p) known p in
    let told = known_shown (kind_of p) shown p in
    elim (cases_Bool (is_allowed (kind_of p) place page known shown p)) [
      | inr falls ↦ record {
        front = [];
        bad = p;
        behind = ps;
        whole = refl;
        torn = refl;
        refused = ap (λ b. b && true) falls;
        numbered = cond-false (is_allowed (kind_of p) place page known shown p)
            (damaged_at place (page + 1) more told ps) page falls ∙ omega arith;
      }
      | inl stands ↦
          let rest : Parted place (page + 1) more told ps =
          parted place (page + 1) more told ps
          (sym (ap (λ b. b && could_be_torn place (page + 1) more told ps) stands) ∙ not)
          in
          record {
            front = p ∷ rest.front;
            bad = rest.bad;
            behind = rest.behind;
            whole = ap (λ (l : List Page). p ∷ l) rest.whole;
            torn = and_from (is_allowed (kind_of p) place page known shown p)
                (could_be_torn place (page + 1) more told rest.front) stands rest.torn;
            refused = ap (λ b. b && could_be_torn place (page + 1) more told (rest.front ++ rest.bad ∷ [])) stands
                ∙ rest.refused;
            numbered = cond-true (is_allowed (kind_of p) place page known shown p)
                (damaged_at place (page + 1) more told ps) page stands ∙ rest.numbered ∙ omega arith;
          }
    ]

-- ---- lists of pages

are_append : (xs ys : List Page) → ArePages xs → ArePages ys → ArePages (xs ++ ys)
are_append [] ys left right = right
are_append (x ∷ xs) ys left right = (left.0, are_append xs ys left.1 right)

are_front : (xs ys : List Page) → ArePages (xs ++ ys) → ArePages xs
are_front [] ys are = tt
are_front (x ∷ xs) ys are = (are.0, are_front xs ys are.1)

-- ---- the pages of a block of which some were read

-- What stands behind these pages is read, and could be torn, as it is with them before it.
record Front (place from n known : ℕ) (made : Block) : Type 0 where
  sizes : AllByRecursion (λ c. length c ≡ 4072) made
  state : Made made known n
  are : ArePages (pages_from place 0 n made)
  reads : (qs : List Page) → read_from place from [] 0 (pages_from place 0 n made ++ qs) ≡ read_from place from made
      known qs
  torns : (qs : List Page) → could_be_torn place 0 0 (told_bytes 0) (pages_from place 0 n made ++ qs) ≡
      could_be_torn place (length made) known (told_bytes known) qs

no_front : (place from : ℕ) → Front place from 0 0 []
no_front place from = record {
  sizes = tt;
  state = None_yet refl refl;
  are = tt;
  reads = λ qs. refl;
  torns = λ qs. refl;
}

next_front : (place from n known : ℕ) (made : Block) (p : Page) → Front place from n known made → length p ≡ 4096 →
    IsBytes p → (is_whole (kind_of p) && is_next place (length made) known p) ≡ true → length made + 1 ≢ pages_field p
    → Front place from (pages_field p) (pages_field p) (made ++ chunk_field p ∷ [])
next_front place from n known made p front long bytes here inner =
    let m = pages_field p in
    let chunk = chunk_field p in
    let parts = and_parts (is_whole (kind_of p)) (is_next place (length made) known p) here in
    let whole = whole_kind (kind_of p) parts.0 in
    let fields = next_pages place (length made) known p parts.1 in
    let page : p ≡ page_of place (length made) m chunk = unsealed place (length made) known p long bytes whole parts.1
    in
    let size : length chunk ≡ 4072 = omega (arith, length-drop 24 p, long) in
    let longer = length_push made chunk in
    let start : (qs : List Page) → pages_from place 0 n made ++ (p ∷ qs) ≡ pages_from place 0 m (made ++ chunk ∷ []) ++
    qs =
    λ qs. ap (λ (l : List Page). l ++ (p ∷ qs)) (same_front place known n m made front.state fields.1)
    ∙ one_more place m made chunk p qs page in
    let pages_are : ArePages (pages_from place 0 m (made ++ chunk ∷ [])) =
    let P : List Page → Type 0 = λ l. ArePages l in
    subst P (start [] ∙ append-nil (pages_from place 0 m (made ++ chunk ∷ [])))
    (are_append (pages_from place 0 n made) (p ∷ []) front.are ((long, bytes), tt)) in
    record {
      sizes = sizes_push made chunk front.sizes size;
      state = Some_of (omega (arith, longer)) refl (omega (arith, longer, fields.0, inner)) (small p bytes);
      are = pages_are;
      reads = λ qs. ap (read_from place from [] 0) (sym (start qs)) ∙ front.reads (p ∷ qs)
          ∙ next_page place from known made p qs here
          ∙ cond-false (length made + 1 == m) _ _ (ne_eqb (length made + 1) m inner);
      torns = λ qs. ap (could_be_torn place 0 0 (told_bytes 0)) (sym (start qs)) ∙ front.torns (p ∷ qs)
          ∙ torn_whole place (length made) known p qs whole parts.1
          ∙ ap (λ k. could_be_torn place k m (told_bytes m) qs) (sym longer);
    }

-- the pages of a block are those that were read of it and its last one
last_front : (place from n known : ℕ) (made : Block) (p : Page) → Front place from n known made → length p ≡ 4096 →
    IsBytes p → (is_whole (kind_of p) && is_next place (length made) known p) ≡ true → length made + 1 ≡ pages_field p
    → FillsPages (made ++ chunk_field p ∷ []) × ((qs : List Page) →
    pages_from place 0 n made ++ (p ∷ qs) ≡ block_pages place (made ++ chunk_field p ∷ []) ++ qs)
last_front place from n known made p front long bytes here last =
    let m = pages_field p in
    let chunk = chunk_field p in
    let parts = and_parts (is_whole (kind_of p)) (is_next place (length made) known p) here in
    let fields = next_pages place (length made) known p parts.1 in
    let page : p ≡ page_of place (length made) m chunk =
    unsealed place (length made) known p long bytes (whole_kind (kind_of p) parts.0) parts.1 in
    let size : length chunk ≡ 4072 = omega (arith, length-drop 24 p, long) in
    let longer = length_push made chunk in
    let all : m ≡ length (made ++ chunk ∷ []) = sym last ∙ sym longer in (
      record {
        some = omega (arith, longer);
        few = omega (arith, longer, small p bytes);
        each =
            sizes_push made chunk front.sizes size;
      },
      λ qs.
          ap (λ (l : List Page). l ++ (p ∷ qs)) (same_front place known n m made front.state fields.1)
          ∙ one_more place m made chunk p qs page
          ∙ ap (λ k. pages_from place 0 k (made ++ chunk ∷ []) ++ qs) all,
    )

-- ---- what a reading says of its pages

abbrev Says : ℕ → ℕ → List Page → Result (List Block) LogFault → Type 0
Says place from pages (Ok blocks) = Reads place pages blocks
Says place from pages (Err fault) = HasFault place from pages fault

some_read : (block : Block) (r : Result (List Block) LogFault) → with_block block r ≡ Ok [] → ⊥
some_read block (Ok blocks) is = cc
some_read block (Err fault) is = cc

fault_read : (fault : LogFault) (r : Result (List Block) LogFault) → r ≡ Err fault → r ≡ Ok [] → ⊥
fault_read fault r bad is = cc

not_ok : (b : Bool) (block : Block) (r : Result (List Block) LogFault) (from : ℕ) →
    cond b (with_block block r) (Err (fault_at BadBlock from)) ≡ Ok [] → ⊥
not_ok true block r from is = some_read block r is
not_ok false block r from is = fault_read (fault_at BadBlock from) (Err (fault_at BadBlock from)) refl is

-- pages of which nothing is read begin with no block
none_stands : (place from : ℕ) (pages : List Page) → read_from place from [] 0 pages ≡ Ok [] →
    (block : Block) (more : List Page) → place < 2 ^ 64 → FillsPages block → pages ≡ block_pages place block ++ more → ⊥
none_stands place from pages none block more fits fills is =
    not_ok (is_sound block) block (read_from (place + batches_in block) (from + length block) [] 0 more) from
    (sym (block_read place from block more fits fills) ∙ ap (read_from place from [] 0) (sym is) ∙ none)

abbrev nothing_read : (place from : ℕ) (pages : List Page) → ArePages pages →
    could_be_torn place 0 0 (told_bytes 0) pages ≡ true → read_from place from [] 0 pages ≡ Ok [] → Reads place pages []
nothing_read place from pages are torn none = record {
  rest = pages;
  whole = refl;
  each = tt;
  torn = torn_is_left place pages are torn;
  unfinished = none_stands place from pages none;
}

-- with a block before them
abbrev reads_more : (place : ℕ) (block : Block) (pages : List Page) (blocks : List Block) → IsBlock block →
    Reads (place + batches_in block) pages blocks → Reads place (block_pages place block ++ pages) (block ∷ blocks)
reads_more place block pages blocks is read =
    let front = block_pages place block in
    let later = log_pages (place + batches_in block) blocks in
    record {
      rest = read.rest;
      whole = ap (λ (l : List Page). front ++ l) read.whole ∙ sym (append_assoc front later read.rest);
      each = (is, read.each);
      torn = read.torn;
      unfinished = read.unfinished;
    }

says_more : (place from : ℕ) (block : Block) (pages : List Page) (r : Result (List Block) LogFault) → IsBlock block →
    Says (place + batches_in block) (from + length block) pages r →
    Says place from (block_pages place block ++ pages) (with_block block r)
says_more place from block pages (Ok blocks) is said = reads_more place block pages blocks is said
says_more place from block pages (Err fault) is (inl (kind, bad)) =
    let front = block_pages place block in
    let count : length front ≡ length block = length-pages_from place 0 (length block) block in
    inl (
      kind,
      record {
        front = front ++ bad.front;
        page = bad.page;
        behind = bad.behind;
        blocks = block ∷ bad.blocks;
        whole = ap (λ (l : List Page). front ++ l) bad.whole
            ∙ sym (append_assoc front bad.front (bad.page ∷ bad.behind));
        numbered = bad.numbered ∙ omega (arith, length-append front bad.front);
        read = reads_more place block bad.front bad.blocks is bad.read;
        refused = bad.refused;
      },
    )
says_more place from block pages (Err fault) is (inr (kind, bad)) =
    let front = block_pages place block in
    let later = log_pages (place + batches_in block) bad.blocks in
    let last = block_pages (place_behind (place + batches_in block) bad.blocks) bad.block in
    let count : length front ≡ length block = length-pages_from place 0 (length block) block in
    inr (
      kind,
      record {
        blocks = block ∷ bad.blocks;
        block = bad.block;
        behind = bad.behind;
        whole = ap (λ (l : List Page). front ++ l) bad.whole ∙ sym (append_assoc front later (last ++ bad.behind));
        numbered = bad.numbered ∙ omega (arith, length-append front later);
        each = (is, bad.each);
        fills = bad.fills;
        unsound = bad.unsound;
      },
    )

-- ---- the end of what is read

-- a front of the pages that follow is read as nothing, where it could be torn and its first page isn't the next whole
-- one
bare_front : (place from known : ℕ) (made : Block) (p : Page) (ps t behind : List Page) (q : Page) →
    (is_whole (kind_of p) && is_next place (length made) known p) ≡ false → p ∷ ps ≡ t ++ q ∷ behind
    → could_be_torn place (length made) known (told_bytes known) t ≡ true → read_from place from made known t ≡ Ok []
bare_front place from known made p ps [] behind q other is torn = none_read place from known made
bare_front place from known made p ps (x ∷ t) behind q other is torn =
    let same : p ≡ x = cc in
    let other' : (is_whole (kind_of x) && is_next place (length made) known x) ≡ false =
    ap (λ (y : Page). is_whole (kind_of y) && is_next place (length made) known y) (sym same) ∙ other in
    other_page place from known made x t other'
    ∙ cond-true (could_be_torn place (length made) known (told_bytes known) (x ∷ t)) _ _ torn

module _ (place from n known : ℕ) (made : Block) (front : Front place from n known made) where
  said_none : (ps : List Page) → ArePages ps → could_be_torn place (length made) known (told_bytes known) ps ≡ true →
      read_from place from made known ps ≡ Ok [] → Says place from (pages_from place 0 n made ++ ps) (Ok [])
  said_none ps are torn none =
      nothing_read place from (pages_from place 0 n made ++ ps) (are_append (pages_from place 0 n made) ps front.are are)
      (front.torns ps ∙ torn) (front.reads ps ∙ none)

  -- what was refused page by page is nothing that an append may have left
  refused_of : (t : List Page) (q : Page) →
      could_be_torn place (length made) known (told_bytes known) (t ++ q ∷ []) ≡ false →
      IsTorn place ((pages_from place 0 n made ++ t) ++ q ∷ []) → ⊥
  refused_of t q refused torn =
      let first = pages_from place 0 n made in
      let passes : could_be_torn place 0 0 (told_bytes 0) ((first ++ t) ++ q ∷ []) ≡ true =
      torn_passes place ((first ++ t) ++ q ∷ []) torn in
      let falls : could_be_torn place 0 0 (told_bytes 0) ((first ++ t) ++ q ∷ []) ≡ false =
      ap (could_be_torn place 0 0 (told_bytes 0)) (append_assoc first t (q ∷ [])) ∙ front.torns (t ++ q ∷ []) ∙ refused in
      both_ways _ falls passes

  said_damage : (p : Page) (ps : List Page) → ArePages (p ∷ ps) →
      (is_whole (kind_of p) && is_next place (length made) known p) ≡ false →
      could_be_torn place (length made) known (told_bytes known) (p ∷ ps) ≡ false
      → Says place from (pages_from place 0 n made ++ (p ∷ ps))
      (Err (fault_at Damaged (from + damaged_at place (length made) known (told_bytes known) (p ∷ ps))))
  said_damage p ps are other not =
      let cut = parted place (length made) known (told_bytes known) (p ∷ ps) not in
      let first = pages_from place 0 n made in
      let count : length first ≡ length made = length-pages_from place 0 n made in
      let none = bare_front place from known made p ps cut.front cut.behind cut.bad other cut.whole cut.torn in
      let P : List Page → Type 0 = λ l. ArePages l in
      let front_are : ArePages (first ++ cut.front) =
      are_append first cut.front front.are (are_front cut.front (cut.bad ∷ cut.behind) (subst P cut.whole are)) in
      inl (
        refl,
        record {
          front = first ++ cut.front;
          page = cut.bad;
          behind = cut.behind;
          blocks = [];
          whole = ap (λ (l : List Page). first ++ l) cut.whole
              ∙ sym (append_assoc first cut.front (cut.bad ∷ cut.behind));
          numbered = omega (arith, cut.numbered, length-append first cut.front);
          read = nothing_read place from (first ++ cut.front) front_are (front.torns cut.front ∙ cut.torn)
              (front.reads cut.front ∙ none);
          refused = refused_of cut.front cut.bad cut.refused;
        },
      )

  said_ended : (p : Page) (ps : List Page) → ArePages (p ∷ ps) →
      (is_whole (kind_of p) && is_next place (length made) known p) ≡ false →
      Says place from (pages_from place 0 n made ++ (p ∷ ps)) (read_from place from made known (p ∷ ps))
  said_ended p ps are other =
      let end = other_page place from known made p ps other in
      let P : Result (List Block) LogFault → Type 0 = λ r. Says place from (pages_from place 0 n made ++ (p ∷ ps)) r in
      elim (cases_Bool (could_be_torn place (length made) known (told_bytes known) (p ∷ ps))) [
        | inl torn ↦
            let is = end ∙ cond-true (could_be_torn place (length made) known (told_bytes known) (p ∷ ps)) _ _ torn in
            subst P (sym is) (said_none (p ∷ ps) are torn is)
        | inr not ↦
            let is = end ∙ cond-false (could_be_torn place (length made) known (told_bytes known) (p ∷ ps)) _ _ not in
            subst P (sym is) (said_damage p ps are other not)
      ]

said_bad_block : (place from : ℕ) (block : Block) (ps : List Page) → FillsPages block → is_sound block ≡ false →
    Says place from (block_pages place block ++ ps) (Err (fault_at BadBlock from))
said_bad_block place from block ps fills unsound =
    inr (
      refl,
      record {
        blocks = [];
        block = block;
        behind = ps;
        whole = refl;
        numbered = omega arith;
        each = tt;
        fills = fills;
        unsound = unsound;
      },
    )

-- ---- all of it

both_ends : (place from : ℕ) (xs ys : List Page) (r s : Result (List Block) LogFault) → xs ≡ ys → r ≡ s →
    Says place from xs r → Says place from ys s
both_ends place from xs ys r s pages is said =
    let P : List Page → Type 0 = λ l. Says place from l r in
    let Q : Result (List Block) LogFault → Type 0 = λ x. Says place from ys x in
    subst Q is (subst P pages said)

says : (place from n known : ℕ) (made : Block) (ps : List Page) → ArePages ps → Front place from n known made →
    Says place from (pages_from place 0 n made ++ ps) (read_from place from made known ps)
says place from n known made [] are front =
    let P : Result (List Block) LogFault → Type 0 = λ r. Says place from (pages_from place 0 n made ++ []) r in
    let none = none_read place from known made in
    subst P (sym none) (said_none place from n known made front [] tt
    (torn_none place (length made) known (told_bytes known)) none)
says place from n known made (p ∷ ps) are front =
    let m = pages_field p in
    let block = made ++ chunk_field p ∷ [] in
    elim (cases_Bool (is_whole (kind_of p) && is_next place (length made) known p)) [
      | inr other ↦ said_ended place from n known made front p ps are other
      | inl here ↦
          let step = next_page place from known made p ps here in
          elim (cases_Bool (length made + 1 == m)) [
            | inr inner ↦
                let more : length made + 1 ≢ m = eqb-false (length made + 1) m inner in
                let next = next_front place from n known made p front are.0.0 are.0.1 here more in
                let later = says place from m m block ps are.1 next in
                let parts = and_parts (is_whole (kind_of p)) (is_next place (length made) known p) here in
                let fields = next_pages place (length made) known p parts.1 in
                let page : p ≡ page_of place (length made) m (chunk_field p) =
                unsealed place (length made) known p are.0.0 are.0.1 (whole_kind (kind_of p) parts.0) parts.1 in
                let start : pages_from place 0 n made ++ (p ∷ ps) ≡ pages_from place 0 m block ++ ps =
                ap (λ (l : List Page). l ++ (p ∷ ps)) (same_front place known n m made front.state fields.1)
                ∙ one_more place m made (chunk_field p) p ps page in
                let read = step ∙ cond-false (length made + 1 == m) _ _ inner in
                both_ends place from (pages_from place 0 m block ++ ps) (pages_from place 0 n made ++ (p ∷ ps))
                (read_from place from block m ps) (read_from place from made known (p ∷ ps)) (sym start) (sym read)
                later
            | inl last ↦
                let all = eqb-true (length made + 1) m last in
                let closing = last_front place from n known made p front are.0.0 are.0.1 here all in
                let later = says (place + batches_in block) (from + length block) 0 0 [] ps are.1
                (no_front (place + batches_in block) (from + length block)) in
                let read = step ∙ cond-true (length made + 1 == m) _ _ last in
                elim (cases_Bool (is_sound block)) [
                  | inl sound ↦
                      let more = says_more place from block ps
                      (read_from (place + batches_in block) (from + length block) [] 0 ps)
                      (record { fills = closing.0; sound = sound }) later in
                      both_ends place from (block_pages place block ++ ps) (pages_from place 0 n made ++ (p ∷ ps))
                      (with_block block (read_from (place + batches_in block) (from + length block) [] 0 ps))
                      (read_from place from made known (p ∷ ps)) (sym (closing.1 ps))
                      (sym (read ∙ cond-true (is_sound block) _ _ sound)) more
                  | inr unsound ↦
                      both_ends place from (block_pages place block ++ ps) (pages_from place 0 n made ++ (p ∷ ps))
                      (Err (fault_at BadBlock from)) (read_from place from made known (p ∷ ps)) (sym (closing.1 ps))
                      (sym (read ∙ cond-false (is_sound block) _ _ unsound))
                      (said_bad_block place from block ps closing.0 unsound)
                ]
          ]
    ]

pub says_of : (place from : ℕ) (pages : List Page) → ArePages pages →
    Says place from pages (read_from place from [] 0 pages)
says_of place from pages are = says place from 0 0 [] pages are (no_front place from)

pub read_holds : (first : ℕ) (pages : List Page) (blocks : List Block) → ArePages pages →
    read_pages first pages ≡ Ok blocks → Reads first pages blocks
read_holds first pages blocks are is =
    let P : Result (List Block) LogFault → Type 0 = λ r. Says first 1 pages r in
    subst P is (says_of first 1 pages are)

pub fault_holds : (first : ℕ) (pages : List Page) (fault : LogFault) → ArePages pages →
    read_pages first pages ≡ Err fault → HasFault first 1 pages fault
fault_holds first pages fault are is =
    let P : Result (List Block) LogFault → Type 0 = λ r. Says first 1 pages r in
    subst P is (says_of first 1 pages are)

-- ---- a log is read

parted_pages : (xs ys : List Page) → ArePages (xs ++ ys) → ArePages ys
parted_pages [] ys are = are
parted_pages (x ∷ xs) ys are = parted_pages xs ys are.1

-- What could be torn and begins with no block is read as nothing.
module _ (place from : ℕ) (rest : List Page) (fits : place < 2 ^ 64) (torn : IsTorn place rest)
    (unfinished : (block : Block) (more : List Page) → place < 2 ^ 64 → FillsPages block →
    rest ≡ block_pages place block ++ more → ⊥) where
  begins_not : (b : Block) (blocks : List Block) (more : List Page) → FillsPages b →
      rest ≡ log_pages place (b ∷ blocks) ++ more → ⊥
  begins_not b blocks more fills is =
      unfinished b (log_pages (place + batches_in b) blocks ++ more) fits fills (is
      ∙ append_assoc (block_pages place b) (log_pages (place + batches_in b) blocks) more)

  not_damaged : (blocks : List Block) (front : List Page) (page : Page) (behind : List Page) →
      rest ≡ front ++ page ∷ behind → (read : Reads place front blocks) →
      (IsTorn (place_behind place blocks) (read.rest ++ page ∷ []) → ⊥) → ⊥
  not_damaged [] front page behind whole read refused =
      let same : front ≡ read.rest = read.whole in
      let split : rest ≡ (read.rest ++ page ∷ []) ++ behind = whole ∙ ap (λ (l : List Page). l ++ page ∷ behind) same
      ∙ sym (append_assoc read.rest (page ∷ []) behind) in
      let P : List Page → Type 0 = λ l. IsTorn place l in
      refused (torn_front place (read.rest ++ page ∷ []) behind (subst P split torn))
  not_damaged (b ∷ blocks) front page behind whole read refused =
      begins_not b blocks (read.rest ++ page ∷ behind) read.each.0.fills
      (whole ∙ ap (λ (l : List Page). l ++ page ∷ behind) read.whole
      ∙ append_assoc (log_pages place (b ∷ blocks)) read.rest (page ∷ behind))

  not_bad : (blocks : List Block) (block : Block) (behind : List Page) → AllByRecursion IsBlock blocks →
      FillsPages block → rest ≡ log_pages place blocks ++ (block_pages (place_behind place blocks) block ++ behind) → ⊥
  not_bad [] block behind each fills whole = unfinished block behind fits fills whole
  not_bad (b ∷ blocks) block behind each fills whole =
      begins_not b blocks (block_pages (place_behind (place + batches_in b) blocks) block ++ behind) each.0.fills whole

  read_as_none : (r : Result (List Block) LogFault) → Says place from rest r → r ≡ Ok []
  read_as_none (Ok []) said = refl
  read_as_none (Ok (b ∷ blocks)) said = absurd (begins_not b blocks said.rest said.each.0.fills said.whole)
  read_as_none (Err fault) (inl (kind, bad)) =
      absurd (not_damaged bad.blocks bad.front bad.page bad.behind bad.whole bad.read bad.refused)
  read_as_none (Err fault) (inr (kind, bad)) =
      absurd (not_bad bad.blocks bad.block bad.behind bad.each bad.fills bad.whole)

pub logs_read : (first : ℕ) (pages : List Page) (blocks : List Block) → ArePages pages →
    place_behind first blocks < 2 ^ 64 → Reads first pages blocks → read_pages first pages ≡ Ok blocks
logs_read first pages blocks are fits read =
    let place = place_behind first blocks in
    let from = 1 + length (log_pages first blocks) in
    let P : List Page → Type 0 = λ l. ArePages l in
    let rest_are = parted_pages (log_pages first blocks) read.rest (subst P read.whole are) in
    let none = read_as_none place from read.rest fits read.torn read.unfinished (read_from place from [] 0 read.rest)
    (says_of place from read.rest rest_are) in
    ap (read_pages first) read.whole
    ∙ log_read first 1 blocks read.rest fits read.each
    ∙ ap (with_blocks blocks) none
    ∙ with_blocks_ok blocks []
    ∙ ap Ok (append-nil blocks)

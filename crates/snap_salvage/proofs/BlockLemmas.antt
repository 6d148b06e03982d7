-- What is read of the first pages of a log, beside what is read of more of them.
use Rattle.std.proofs.Common.{◌≡◌, ◌⊎◌, inl, inr, ⊎_elim, ℕ, ◌+◌, ◌*◌, ◌^◌, ◌<◌, ◌≤◌, true, List, [], ◌∷◌, ◌++◌}
use Rattle.std.proofs.Common.{length, Result, Ok, Err, refl, sym, ap, subst, ◌∙◌, append_assoc, length-append, arith}
use Rattle.std.proofs.lemmas.Bool.{and_parts, leb-true, cases_Bool, cond-true, cond-false}
use Rattle.std.proofs.lemmas.List.{append-nil}
use Rattle.std.specs.Prelude.{nat_lt, nat_le, ◌==◌, ◌&&◌}
use Rattle.std.specs.Int.{w32, to_be_bytes}
use Rattle.std.specs.List.{AllByRecursion}
use Rattle.batch_store.specs.Setups.{Setting, IsSetting}
use Rattle.batch_store.specs.Batches.{Submission, values}
use Rattle.log_page.specs.Pages.{chunk_field, is_next, is_whole, kind_of, pages_field}
use Rattle.log_blocks.specs.Blocks.{Page, ArePages, IsBlock, FillsPages, batches_in as told_in, is_sound}
use Rattle.log_blocks.specs.Blocks.{block_pages, log_pages, place_behind}
use Rattle.log_blocks.specs.Blocks.{Block as Chunks}
use Rattle.log_blocks.specs.Reading.{could_be_torn, damaged_at, ended, fault_at, read_from, read_pages, with_block, with_blocks}
use Rattle.log_blocks.specs.Scanning.{last_begin}
use Rattle.log_blocks.specs.declared.fault.LogFault.{LogFault}
use Rattle.log_blocks.specs.declared.fault.LogKind.TheVariants.{Damaged, BadBlock}
use Rattle.log_blocks.proofs.Sound.{read_holds}
use Rattle.log_blocks.proofs.Torn.{length-pages_from, log_read, next_page, none_read, other_page, read_whole}
use Rattle.log_blocks.proofs.Torn.{with_blocks_ok, with_blocks_err}
use Rattle.log_batches.specs.Held.{HoldsBatches}
use Rattle.log_batches.proofs.BlockLemmas.{same_lists}
use Rattle.snap_file.specs.declared.head.Head.{Head}
use Rattle.log_read.specs.Logs.{AreBlocks}
use Rattle.log_read.specs.declared.file.Block.{Block}
use Rattle.snap_salvage.specs.Fronts.{Begins}

-- ---- lists

module _ {X : Type 0} where
  -- of two parts of one list, one goes on where the other ends
  one_goes_on : (xs ys zs ws : List X) → xs ++ ys ≡ zs ++ ws →
      ((d : List X) × (zs ≡ xs ++ d) × (ys ≡ d ++ ws)) ⊎ ((d : List X) × (xs ≡ zs ++ d))
  one_goes_on [] ys zs ws e = inl (zs, refl, e)
  one_goes_on (x ∷ xs) ys [] ws e = inr (x ∷ xs, refl)
  one_goes_on (x ∷ xs) ys (z ∷ zs) ws e =
      let first : x ≡ z = cc e in
      let rest : xs ++ ys ≡ zs ++ ws = cc e in
      ⊎_elim
      (λ on. inl (on.0, ap (λ (l : List X). z ∷ l) on.1 ∙ ap (λ (y : X). y ∷ (xs ++ on.0)) (sym first), on.2))
      (λ on. inr (on.0, ap (λ (l : List X). x ∷ l) on.1 ∙ ap (λ (y : X). y ∷ (zs ++ on.0)) first))
      (one_goes_on xs ys zs ws rest)

  pub none_more : (d : List X) → length d ≡ 0 → d ≡ []
  none_more [] e = refl
  none_more (x ∷ d) e = absurd (omega arith)

  -- the shorter of two beginnings begins the other
  pub shorter_begins : (xs ys zs ws : List X) → xs ++ ys ≡ zs ++ ws → length xs ≤ length zs →
      (d : List X) × (zs ≡ xs ++ d)
  shorter_begins xs ys zs ws e le =
      ⊎_elim (λ on. (on.0, on.1))
      (λ on.
      let none : on.0 ≡ [] = none_more on.0 (omega (arith, ap (λ (l : List X). length l) on.1, length-append zs on.0)) in
      ([], sym (append-nil zs) ∙ ap (λ (l : List X). zs ++ l) (sym none) ∙ sym on.1 ∙ sym (append-nil xs)))
      (one_goes_on xs ys zs ws e)

  -- what goes on with one at least goes on in all but the last
  pub all_but_last : (xs zs : List X) (y w : X) (ws : List X) → xs ++ y ∷ [] ≡ zs ++ w ∷ ws →
      (more : List X) × (xs ≡ zs ++ more)
  all_but_last xs [] y w ws e = (xs, refl)
  all_but_last [] (z ∷ []) y w ws e = absurd (cc e)
  all_but_last [] (z ∷ (v ∷ zs)) y w ws e = absurd (cc e)
  all_but_last (x ∷ xs) (z ∷ zs) y w ws e =
      let first : x ≡ z = cc e in
      let rest : xs ++ y ∷ [] ≡ zs ++ w ∷ ws = cc e in
      let on = all_but_last xs zs y w ws rest in
      (on.0, ap (λ (l : List X). x ∷ l) on.1 ∙ ap (λ (v : X). v ∷ (zs ++ on.0)) first)

pub front_are : (xs ys : List Page) → ArePages (xs ++ ys) → ArePages xs
front_are [] ys are = tt
front_are (x ∷ xs) ys are = (are.0, front_are xs ys are.1)

-- ---- results

pub same_ok : (a b : List Chunks) → ◌≡◌ {A = Result (List Chunks) LogFault} (Ok a) (Ok b) → a ≡ b
same_ok a b e = cc e

pub ok_is_no_err : (a : List Chunks) (b : LogFault) → ◌≡◌ {A = Result (List Chunks) LogFault} (Ok a) (Err b) → ⊥
ok_is_no_err a b e = absurd (cc e)

same_err : (a b : LogFault) → ◌≡◌ {A = Result (List Chunks) LogFault} (Err a) (Err b) → a ≡ b
same_err a b e = cc e

pub with_ok : (gs found : List Chunks) (read : Result (List Chunks) LogFault) → with_blocks gs read ≡ Ok found →
    (more : List Chunks) × (found ≡ gs ++ more)
with_ok gs found (Ok more) e = (more, same_ok found (gs ++ more) (sym e ∙ with_blocks_ok gs more))
with_ok gs found (Err fault) e = absurd (ok_is_no_err found fault (sym e ∙ with_blocks_err gs fault))

pub with_err : (gs : List Chunks) (fault : LogFault) (read : Result (List Chunks) LogFault) →
    with_blocks gs read ≡ Err fault → read ≡ Err fault
with_err gs fault (Ok more) e = absurd (ok_is_no_err (gs ++ more) fault (sym (with_blocks_ok gs more) ∙ e))
with_err gs fault (Err other) e = sym (with_blocks_err gs other) ∙ e

block_err : (block : Chunks) (fault : LogFault) (read : Result (List Chunks) LogFault) →
    with_block block read ≡ Err fault → read ≡ Err fault
block_err block fault (Ok more) e = absurd (ok_is_no_err (block ∷ more) fault e)
block_err block fault (Err other) e = e

-- ---- where a fault is

ended_from : (place from page known : ℕ) (shown : List ℕ) (ps : List Page) (fault : LogFault) →
    ended place from page known shown ps ≡ Err fault → from ≤ fault.page
ended_from place from page known shown ps fault e =
    elim (cases_Bool (could_be_torn place page known shown ps)) [
      | inl torn ↦ absurd (ok_is_no_err [] fault (sym (cond-true (could_be_torn place page known shown ps) (Ok [])
          (Err (fault_at Damaged (from + damaged_at place page known shown ps))) torn) ∙ e))
      | inr not ↦
          let is : fault_at Damaged (from + damaged_at place page known shown ps) ≡ fault =
          same_err (fault_at Damaged (from + damaged_at place page known shown ps)) fault
          (sym (cond-false (could_be_torn place page known shown ps) (Ok [])
          (Err (fault_at Damaged (from + damaged_at place page known shown ps))) not) ∙ e) in
          omega (arith, ap (λ (f : LogFault). f.page) is)
    ]

-- a fault isn't before the page from which on it was looked for
pub fault_from : (place from known : ℕ) (made : Chunks) (ps : List Page) (fault : LogFault) →
    read_from place from made known ps ≡ Err fault → from ≤ fault.page
fault_from place from known made [] fault e =
    absurd (ok_is_no_err [] fault (sym (none_read place from known made) ∙ e))
fault_from place from known made (p ∷ ps) fault e =
    let block = made ++ chunk_field p ∷ [] in
    elim (cases_Bool (is_whole (kind_of p) && is_next place (length made) known p)) [
      | inr other ↦ ended_from place from (length made) known (to_be_bytes w32 known) (p ∷ ps) fault
          (sym (other_page place from known made p ps other) ∙ e)
      | inl here ↦
          let step = sym (next_page place from known made p ps here) ∙ e in
          elim (cases_Bool (length made + 1 == pages_field p)) [
            | inr inner ↦ fault_from place from (pages_field p) block ps fault
                (sym (cond-false (length made + 1 == pages_field p) (read_whole place from block ps)
                (read_from place from block (pages_field p) ps) inner) ∙ step)
            | inl last ↦
                let whole : read_whole place from block ps ≡ Err fault =
                sym (cond-true (length made + 1 == pages_field p) (read_whole place from block ps)
                (read_from place from block (pages_field p) ps) last) ∙ step in
                let later = read_from (place + told_in block) (from + length block) [] 0 ps in
                elim (cases_Bool (is_sound block)) [
                  | inl sound ↦
                      let less = fault_from (place + told_in block) (from + length block) 0 [] ps fault
                      (block_err block fault later (sym (cond-true (is_sound block) (with_block block later)
                      (Err (fault_at BadBlock from)) sound) ∙ whole)) in
                      omega (arith, less)
                  | inr unsound ↦
                      let is : fault_at BadBlock from ≡ fault =
                      same_err (fault_at BadBlock from) fault (sym (cond-false (is_sound block) (with_block block later)
                      (Err (fault_at BadBlock from)) unsound) ∙ whole) in
                      omega (arith, ap (λ (f : LogFault). f.page) is)
                ]
          ]
    ]

-- the last of some blocks begins behind the pages of those before it
pub last_end : (page last place : ℕ) (good : List Chunks) (block : Chunks) →
    last_begin page last (good ++ block ∷ []) ≡ page + length (log_pages place good)
last_end page last place [] block = omega arith
last_end page last place (g ∷ good) block =
    omega (
      arith,
      last_end (page + length g) page (place + told_in g) good block,
      length-append (block_pages place g) (log_pages (place + told_in g) good),
      length-pages_from place 0 (length g) g,
    )

-- ---- places

few_batches : (block : Chunks) → is_sound block ≡ true → told_in block ≤ 170 * length block
unfolding is_sound
few_batches block sound =
    let parts = and_parts (nat_lt 0 (told_in block)) (nat_le (8 + 24 * told_in block) (4072 * length block)) sound in
    let fits : 8 + 24 * told_in block ≤ 4072 * length block =
    leb-true (8 + 24 * told_in block) (4072 * length block) parts.1 in
    omega arith

pub places_fit : (place : ℕ) (blocks : List Chunks) → AllByRecursion IsBlock blocks →
    place_behind place blocks ≤ place + 170 * length (log_pages place blocks)
places_fit place [] each = omega arith
places_fit place (block ∷ blocks) each =
    let behind = place + told_in block in
    omega (
      arith,
      few_batches block each.0.sound,
      places_fit behind blocks each.1,
      length-pages_from place 0 (length block) block,
      length-append (block_pages place block) (log_pages behind blocks),
    )

-- ---- blocks

one_list : (s : Setting) (block : Chunks) (list other : List Submission) → IsSetting s → FillsPages block →
    HoldsBatches s block list → HoldsBatches s block other → list ≡ other
one_list s block list other is fills a b =
    let h : Head = record { setup = s; version = 3; batches = 0; total = s.limit } in
    same_lists h (record { rows = is.dims.0.1; cols = is.dims.1.1; limit = refl; below = is.fits }) block list other
    fills a b

pub begin_blocks : (s : Setting) (page : ℕ) (gs more : List Chunks) (others blocks : List Block) → IsSetting s →
    AllByRecursion IsBlock gs → AreBlocks s page gs others → AreBlocks s page (gs ++ more) blocks → Begins others blocks
begin_blocks s page [] more [] blocks is each a b = tt
begin_blocks s page [] more (x ∷ others) blocks is each a b = absurd a
begin_blocks s page (g ∷ gs) more [] blocks is each a b = absurd a
begin_blocks s page (g ∷ gs) more (x ∷ others) [] is each a b = absurd b
begin_blocks s page (g ∷ gs) more (x ∷ others) (y ∷ blocks) is each a b = (
  a.0 ∙ sym b.0,
  one_list s g (values x.batches.items) (values y.batches.items) is each.0.fills a.1 b.1,
  begin_blocks s (page + length g) gs more others blocks is each.1 a.2 b.2,
)

held_at : (s : Setting) (page : ℕ) (good more : List Chunks) (block : Chunks) (blocks : List Block) →
    AreBlocks s page (good ++ block ∷ more) blocks → (list : List Submission) × HoldsBatches s block list
held_at s page [] more block [] are = absurd are
held_at s page [] more block (b ∷ blocks) are = (values b.batches.items, are.1)
held_at s page (g ∷ good) more block [] are = absurd are
held_at s page (g ∷ good) more block (b ∷ blocks) are =
    held_at s (page + length g) good more block blocks are.2

-- a block that holds none isn't among those that hold some
pub none_held : (s : Setting) (found good more : List Chunks) (block : Chunks) (blocks : List Block) →
    found ≡ (good ++ block ∷ []) ++ more → AreBlocks s 1 found blocks →
    ((list : List Submission) → HoldsBatches s block list → ⊥) → ⊥
none_held s found good more block blocks is are none =
    let same : found ≡ good ++ block ∷ more = is ∙ append_assoc good (block ∷ []) more in
    let held = held_at s 1 good more block blocks
    (subst (λ (l : List Chunks). AreBlocks s 1 l blocks) same are) in
    none held.0 held.1

-- ---- what is read of a part

module _ (first : ℕ) (low : first ≤ 2 ^ 30) where
  pub fits_in : (front : List Page) (gs : List Chunks) (rest : List Page) → length front < 2 ^ 50 →
      front ≡ log_pages first gs ++ rest → AllByRecursion IsBlock gs → place_behind first gs < 2 ^ 64
  fits_in front gs rest few whole each =
      omega (
        arith,
        places_fit first gs each,
        ap (λ (l : List Page). length l) whole,
        length-append (log_pages first gs) rest,
      )

  -- what is read behind the pages of these blocks
  pub read_behind : (front rest behind : List Page) (gs : List Chunks) → length front < 2 ^ 50 →
      front ≡ log_pages first gs ++ rest → AllByRecursion IsBlock gs →
      read_pages first (front ++ behind) ≡ with_blocks gs
      (read_from (place_behind first gs) (1 + length (log_pages first gs)) [] 0 (rest ++ behind))
  read_behind front rest behind gs few whole each =
      ap (read_pages first) (ap (λ (l : List Page). l ++ behind) whole
      ∙ append_assoc (log_pages first gs) rest behind)
      ∙ log_read first 1 gs (rest ++ behind) (fits_in front gs rest few whole each) each

  -- the blocks of a front are the first ones of all
  pub begun : (front behind : List Page) (gs found : List Chunks) → length front < 2 ^ 50 → ArePages front →
      read_pages first front ≡ Ok gs → read_pages first (front ++ behind) ≡ Ok found →
      (more : List Chunks) × (found ≡ gs ++ more)
  begun front behind gs found few are read all =
      let reads = read_holds first front gs are read in
      with_ok gs found _ (sym (read_behind front reads.rest behind gs few reads.whole reads.each) ∙ all)

  -- blocks whose pages a front has are the first ones that are read of it
  pub blocks_in : (gs found : List Chunks) (rest : List Page) → AllByRecursion IsBlock gs →
      length (log_pages first gs ++ rest) < 2 ^ 50 → read_pages first (log_pages first gs ++ rest) ≡ Ok found →
      (more : List Chunks) × (found ≡ gs ++ more)
  blocks_in gs found rest each few all =
      with_ok gs found _ (sym (log_read first 1 gs rest (fits_in (log_pages first gs ++ rest) gs rest few refl each) each)
      ∙ all)

  -- a fault behind blocks isn't on their pages
  pub fault_behind : (front behind : List Page) (gs : List Chunks) (fault : LogFault) → length front < 2 ^ 50 →
      ArePages front → read_pages first front ≡ Ok gs → read_pages first (front ++ behind) ≡ Err fault →
      1 + length (log_pages first gs) ≤ fault.page
  fault_behind front behind gs fault few are read all =
      let reads = read_holds first front gs are read in
      fault_from (place_behind first gs) (1 + length (log_pages first gs)) 0 [] (reads.rest ++ behind) fault
      (with_err gs fault _ (sym (read_behind front reads.rest behind gs few reads.whole reads.each) ∙ all))

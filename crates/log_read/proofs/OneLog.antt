-- Bytes are one log at most, or have one fault at most, and never both.
use Rattle.std.proofs.Common.{◌≡◌, ℕ, ◌+◌, ◌*◌, ◌^◌, ◌<◌, ◌≤◌, true, List, [], ◌∷◌, ◌++◌, length}
use Rattle.std.proofs.Common.{take, drop, Result, Ok, Err, refl, sym, ap, subst, ◌∙◌, append_assoc, length-append, arith}
use Rattle.std.proofs.Common.{◌⊎◌, inl, inr, ⊎_elim}
use Rattle.std.proofs.lemmas.Bool.{and_parts, leb-true}
use Rattle.std.proofs.lemmas.List.{append-nil, length-drop}
use Rattle.std.specs.Prelude.{nat_lt, nat_le}
use Rattle.std.specs.List.{AllByRecursion}
use Rattle.batch_store.specs.Setups.{Setting, IsSetting}
use Rattle.batch_store.specs.Batches.{Submission, values}
use Rattle.log_page.specs.Pages.{IsBytes}
use Rattle.log_blocks.specs.Blocks.{Page, ArePages, IsBlock, FillsPages, batches_in as told_in, is_sound}
use Rattle.log_blocks.specs.Blocks.{block_pages, log_pages, place_behind}
use Rattle.log_blocks.specs.Blocks.{Block as Chunks}
use Rattle.log_blocks.specs.Reading.{fault_at, read_pages, with_blocks}
use Rattle.log_blocks.specs.Scanning.{last_begin, used_pages}
use Rattle.log_blocks.specs.Files.{page_count}
use Rattle.log_blocks.specs.declared.fault.LogFault.{LogFault}
use Rattle.log_blocks.proofs.Sound.{read_holds}
use Rattle.log_blocks.proofs.Torn.{length-pages_from, log_read, with_blocks_ok, with_blocks_err}
use Rattle.log_head.specs.Heads.{HasHead}
use Rattle.log_head.specs.declared.head.LogHead.{LogHead}
use Rattle.log_head.proofs.HeadLaws.{one_head, one_fault as one_head_fault, no_fault as no_head_fault}
use Rattle.log_batches.specs.Held.{HoldsBatches}
use Rattle.log_batches.proofs.BlockLemmas.{same_lists}
use Rattle.snap_file.specs.declared.head.Head.{Head}
use Rattle.log_read.specs.Logs.{AreBlocks, AreSameBlocks, HoldsLog, IsSameLog, HasBadPage, HasBadBlock, HasFaultBehind}
use Rattle.log_read.specs.Logs.{pages_behind}
use Rattle.log_read.specs.Outcomes.{HasNoBlocks, HasLogFault}
use Rattle.log_read.specs.declared.file.Block.{Block}
use Rattle.log_read.specs.declared.file.LogFile.{LogFile}
use Rattle.log_read.proofs.LogFacts.{behind_are, length-pages}

-- ---- one log

one_list : (s : Setting) (block : Chunks) (list other : List Submission) → IsSetting s → FillsPages block →
    HoldsBatches s block list → HoldsBatches s block other → list ≡ other
one_list s block list other is fills a b =
    let h : Head = record { setup = s; version = 3; batches = 0; total = s.limit } in
    same_lists h (record { rows = is.dims.0.1; cols = is.dims.1.1; limit = refl; below = is.fits }) block list other
    fills a b

same_blocks : (s : Setting) (page : ℕ) (found : List Chunks) (blocks others : List Block) → IsSetting s →
    AllByRecursion IsBlock found → AreBlocks s page found blocks → AreBlocks s page found others →
    AreSameBlocks blocks others
same_blocks s page [] [] [] is each a b = tt
same_blocks s page [] (x ∷ blocks) others is each a b = absurd a
same_blocks s page [] [] (y ∷ others) is each a b = absurd b
same_blocks s page (chunks ∷ found) [] others is each a b = absurd a
same_blocks s page (chunks ∷ found) (x ∷ blocks) [] is each a b = absurd b
same_blocks s page (chunks ∷ found) (x ∷ blocks) (y ∷ others) is each a b = (
  a.0 ∙ sym b.0,
  one_list s chunks (values x.batches.items) (values y.batches.items) is each.0.fills a.1 b.1,
  same_blocks s (page + length chunks) found blocks others is each.1 a.2 b.2,
)

same_ok : (a b : List Chunks) → ◌≡◌ {A = Result (List Chunks) LogFault} (Ok a) (Ok b) → a ≡ b
same_ok a b e = cc e

same_err : (a b : LogFault) → ◌≡◌ {A = Result (List Chunks) LogFault} (Err a) (Err b) → a ≡ b
same_err a b e = cc e

ok_is_no_err : (a : List Chunks) (b : LogFault) → ◌≡◌ {A = Result (List Chunks) LogFault} (Ok a) (Err b) → ⊥
ok_is_no_err a b e = absurd (cc e)

same_fault : (f g : LogFault) → f.kind ≡ g.kind → f.page ≡ g.page → f ≡ g
same_fault f g kind page = λ i. fault_at (kind i) (page i)

-- ---- what is read of a front

few_batches : (block : Chunks) → is_sound block ≡ true → told_in block ≤ 170 * length block
unfolding is_sound
few_batches block sound =
    let parts = and_parts (nat_lt 0 (told_in block)) (nat_le (8 + 24 * told_in block) (4072 * length block)) sound in
    let fits : 8 + 24 * told_in block ≤ 4072 * length block =
    leb-true (8 + 24 * told_in block) (4072 * length block) parts.1 in
    omega arith

places_fit : (place : ℕ) (blocks : List Chunks) → AllByRecursion IsBlock blocks →
    place_behind place blocks ≤ place + 170 * length (log_pages place blocks)
places_fit place [] each = omega arith
places_fit place (block ∷ blocks) each =
    let behind = place + told_in block in
    omega (
      arith,
      few_batches block each.0.sound,
      places_fit behind blocks each.1,
      length-pages_from place 0 (length block) block,
      length-append (block_pages place block) (log_pages behind blocks),
    )

front_are : (xs ys : List Page) → ArePages (xs ++ ys) → ArePages xs
front_are [] ys are = tt
front_are (x ∷ xs) ys are = (are.0, front_are xs ys are.1)

module _ {X : Type 0} where
  -- of two parts of one list, one goes on where the other ends
  one_goes_on : (xs ys zs ws : List X) → xs ++ ys ≡ zs ++ ws →
      ((d : List X) × (zs ≡ xs ++ d) × (ys ≡ d ++ ws)) ⊎ ((d : List X) × (xs ≡ zs ++ d))
  one_goes_on [] ys zs ws e = inl (zs, refl, e)
  one_goes_on (x ∷ xs) ys [] ws e = inr (x ∷ xs, refl)
  one_goes_on (x ∷ xs) ys (z ∷ zs) ws e =
      let first : x ≡ z = cc e in
      let rest : xs ++ ys ≡ zs ++ ws = cc e in
      ⊎_elim
      (λ on. inl (on.0, ap (λ (l : List X). z ∷ l) on.1 ∙ ap (λ (y : X). y ∷ (xs ++ on.0)) (sym first), on.2))
      (λ on. inr (on.0, ap (λ (l : List X). x ∷ l) on.1 ∙ ap (λ (y : X). y ∷ (zs ++ on.0)) first))
      (one_goes_on xs ys zs ws rest)

  -- what goes on with one at least goes on in all but the last
  all_but_last : (xs zs : List X) (y w : X) (ws : List X) → xs ++ y ∷ [] ≡ zs ++ w ∷ ws →
      (more : List X) × (xs ≡ zs ++ more)
  all_but_last xs [] y w ws e = (xs, refl)
  all_but_last [] (z ∷ []) y w ws e = absurd (cc e)
  all_but_last [] (z ∷ (v ∷ zs)) y w ws e = absurd (cc e)
  all_but_last (x ∷ xs) (z ∷ zs) y w ws e =
      let first : x ≡ z = cc e in
      let rest : xs ++ y ∷ [] ≡ zs ++ w ∷ ws = cc e in
      let on = all_but_last xs zs y w ws rest in
      (on.0, ap (λ (l : List X). x ∷ l) on.1 ∙ ap (λ (v : X). v ∷ (zs ++ on.0)) first)

with_ok : (gs found : List Chunks) (read : Result (List Chunks) LogFault) → with_blocks gs read ≡ Ok found →
    (more : List Chunks) × (found ≡ gs ++ more)
with_ok gs found (Ok more) e = (more, same_ok found (gs ++ more) (sym e ∙ with_blocks_ok gs more))
with_ok gs found (Err fault) e = absurd (ok_is_no_err found fault (sym e ∙ with_blocks_err gs fault))

module _ (first : ℕ) (low : first ≤ 2 ^ 30) where
  -- the blocks of a front are the first ones of all
  begun : (front behind : List Page) (gs found : List Chunks) → length front < 2 ^ 50 → ArePages front →
      read_pages first front ≡ Ok gs → read_pages first (front ++ behind) ≡ Ok found →
      (more : List Chunks) × (found ≡ gs ++ more)
  begun front behind gs found few are read all =
      let reads = read_holds first front gs are read in
      let rest = reads.rest in
      let long : length front ≡ length (log_pages first gs) + length rest =
      ap (λ (l : List Page). length l) reads.whole ∙ length-append (log_pages first gs) rest in
      let fits : place_behind first gs < 2 ^ 64 = omega (arith, places_fit first gs reads.each, long) in
      let moved : front ++ behind ≡ log_pages first gs ++ (rest ++ behind) =
      ap (λ (l : List Page). l ++ behind) reads.whole ∙ append_assoc (log_pages first gs) rest behind in
      with_ok gs found _ (sym (log_read first 1 gs (rest ++ behind) fits reads.each)
      ∙ ap (read_pages first) (sym moved) ∙ all)

  held_at : (s : Setting) (page : ℕ) (good more : List Chunks) (block : Chunks) (blocks : List Block) →
      AreBlocks s page (good ++ block ∷ more) blocks → (list : List Submission) × HoldsBatches s block list
  held_at s page [] more block [] are = absurd are
  held_at s page [] more block (b ∷ blocks) are = (values b.batches.items, are.1)
  held_at s page (g ∷ good) more block [] are = absurd are
  held_at s page (g ∷ good) more block (b ∷ blocks) are =
      held_at s (page + length g) good more block blocks are.2

  -- a block that holds none isn't among those that hold some
  none_held : (s : Setting) (found good more : List Chunks) (block : Chunks) (blocks : List Block) →
      found ≡ (good ++ block ∷ []) ++ more → AreBlocks s 1 found blocks →
      ((list : List Submission) → HoldsBatches s block list → ⊥) → ⊥
  none_held s found good more block blocks is are none =
      let same : found ≡ good ++ block ∷ more = is ∙ append_assoc good (block ∷ []) more in
      let held = held_at s 1 good more block blocks
      (subst (λ (l : List Chunks). AreBlocks s 1 l blocks) same are) in
      none held.0 held.1

  module _ (s : Setting) (pages : List Page) (pages_are : ArePages pages) (few : length pages < 2 ^ 50) where
    part_are : (front behind : List Page) → pages ≡ front ++ behind → ArePages front
    part_are front behind is = front_are front behind (subst (λ (l : List Page). ArePages l) is pages_are)

    part_few : (front behind : List Page) → pages ≡ front ++ behind → length front < 2 ^ 50
    part_few front behind is =
        omega (arith, ap (λ (l : List Page). length l) is, length-append front behind, few)

    bad_page_read : (fault : LogFault) (bad : HasBadPage s first pages fault) → read_pages first pages ≡ Err fault
    bad_page_read fault bad = ap (read_pages first) bad.pages_are ∙ bad.refused bad.behind

    pub no_fault_behind : (found : List Chunks) (blocks : List Block) (fault : LogFault) →
        read_pages first pages ≡ Ok found → AreBlocks s 1 found blocks → HasFaultBehind s first pages fault → ⊥
    no_fault_behind found blocks fault read are (inl bad) =
        ok_is_no_err found fault (sym read ∙ bad_page_read fault bad)
    no_fault_behind found blocks fault read are (inr bad) =
        let more = begun bad.front bad.behind (bad.good ++ bad.block ∷ []) found
        (part_few bad.front bad.behind bad.pages_are) (part_are bad.front bad.behind bad.pages_are) bad.read
        (ap (read_pages first) (sym bad.pages_are) ∙ read) in
        none_held s found bad.good more.0 bad.block blocks more.1 are bad.none

    -- two fronts of the same pages: one goes on where the other ends
    page_behind_block : (f g : LogFault) (p : HasBadPage s first pages f) (b : HasBadBlock s first pages g)
        (d : List Page) → p.front ≡ b.front ++ d → ⊥
    page_behind_block f g p b d is =
        let more = begun b.front d (b.good ++ b.block ∷ []) p.good
        (part_few b.front b.behind b.pages_are) (part_are b.front b.behind b.pages_are) b.read
        (ap (read_pages first) (sym is) ∙ p.read) in
        none_held s p.good b.good more.0 b.block p.blocks more.1 p.held b.none

    block_behind_page : (f g : LogFault) (p : HasBadPage s first pages f) (b : HasBadBlock s first pages g)
        (d : List Page) → b.front ≡ p.front ++ d → p.page ∷ p.behind ≡ d ++ b.behind → ⊥
    block_behind_page f g p b [] is more =
        page_behind_block f g p b [] (sym (append-nil p.front) ∙ sym is ∙ sym (append-nil b.front))
    block_behind_page f g p b (x ∷ d) is more =
        let same : x ≡ p.page = cc more in
        let here : b.front ≡ p.front ++ p.page ∷ d = is ∙ ap (λ (y : Page). p.front ++ y ∷ d) same in
        ok_is_no_err (b.good ++ b.block ∷ []) f (sym b.read ∙ ap (read_pages first) here ∙ p.refused d)

    page_or_block : (f g : LogFault) (p : HasBadPage s first pages f) (b : HasBadBlock s first pages g) → ⊥
    page_or_block f g p b =
        ⊎_elim (λ on. block_behind_page f g p b on.0 on.1 on.2) (λ on. page_behind_block f g p b on.0 on.1)
        (one_goes_on p.front (p.page ∷ p.behind) b.front b.behind (sym p.pages_are ∙ b.pages_are))

    later_block : (f g : LogFault) (a : HasBadBlock s first pages f) (b : HasBadBlock s first pages g)
        (more : List Chunks) → b.good ++ b.block ∷ [] ≡ (a.good ++ a.block ∷ []) ++ more → f ≡ g
    later_block f g a b [] is =
        let same : b.good ++ b.block ∷ [] ≡ a.good ++ a.block ∷ [] = is ∙ append-nil (a.good ++ a.block ∷ []) in
        same_fault f g (a.kind_is ∙ sym b.kind_is)
        (a.page_is ∙ ap (last_begin 1 0) (sym same) ∙ sym b.page_is)
    later_block f g a b (x ∷ more) is =
        let front = all_but_last b.good (a.good ++ a.block ∷ []) b.block x more is in
        absurd (none_held s b.good a.good front.0 a.block b.blocks front.1 b.held a.none)

    block_on : (f g : LogFault) (a : HasBadBlock s first pages f) (b : HasBadBlock s first pages g) (d : List Page) →
        b.front ≡ a.front ++ d → f ≡ g
    block_on f g a b d is =
        let more = begun a.front d (a.good ++ a.block ∷ []) (b.good ++ b.block ∷ [])
        (part_few a.front a.behind a.pages_are) (part_are a.front a.behind a.pages_are) a.read
        (ap (read_pages first) (sym is) ∙ b.read) in
        later_block f g a b more.0 more.1

    pub one_fault_behind : (f g : LogFault) → HasFaultBehind s first pages f → HasFaultBehind s first pages g → f ≡ g
    one_fault_behind f g (inl p) (inl q) = same_err f g (sym (bad_page_read f p) ∙ bad_page_read g q)
    one_fault_behind f g (inl p) (inr b) = absurd (page_or_block f g p b)
    one_fault_behind f g (inr a) (inl q) = absurd (page_or_block g f q a)
    one_fault_behind f g (inr a) (inr b) =
        ⊎_elim (λ on. block_on f g a b on.0 on.1) (λ on. sym (block_on g f b a on.0 on.1))
        (one_goes_on a.front a.behind b.front b.behind (sym a.pages_are ∙ b.pages_are))

-- ---- whole files

few_pages : (bytes : List ℕ) → length bytes < 2 ^ 50 → length (pages_behind bytes) < 2 ^ 50
few_pages bytes few =
    let count : length (pages_behind bytes) ≡ page_count (drop 4096 bytes) =
    length-pages 0 (page_count (drop 4096 bytes)) (drop 4096 bytes) in
    omega (arith, count, length-drop 4096 bytes)

low_first : (page : List ℕ) (h : LogHead) → HasHead page h → h.first ≤ 2 ^ 30
low_first page h has = omega (arith, has.is.first, has.is.setup.batches.1)

pub one_log : (bytes : List ℕ) (file other : LogFile) → IsBytes bytes → HoldsLog bytes file → HoldsLog bytes other →
    IsSameLog file other
one_log bytes file other are a b =
    let pages = pages_behind bytes in
    let head : file.head ≡ other.head = one_head (take 4096 bytes) file.head other.head a.head b.head in
    let first : file.head.first ≡ other.head.first = ap (λ (h : LogHead). h.first) head in
    let found : b.found ≡ a.found =
    same_ok b.found a.found (sym b.read ∙ ap (λ (n : ℕ). read_pages n pages) (sym first) ∙ a.read) in
    let each = (read_holds file.head.first pages a.found (behind_are bytes are) a.read).each in
    let others : AreBlocks file.head.setup 1 a.found other.blocks.items =
    subst (λ (h : LogHead). AreBlocks h.setup 1 a.found other.blocks.items) (sym head)
    (subst (λ (l : List Chunks). AreBlocks other.head.setup 1 l other.blocks.items) found b.blocks) in
    record {
      head = head;
      blocks = same_blocks file.head.setup 1 a.found file.blocks.items other.blocks.items a.head.is.setup each
          a.blocks others;
      rest = a.rest_is
          ∙ ap (λ (l : List Chunks). used_pages (drop (length (log_pages file.head.first l)) pages)) (sym found)
          ∙ ap (λ (n : ℕ). used_pages (drop (length (log_pages n b.found)) pages)) first
          ∙ sym b.rest_is;
    }

behind_of : (bytes : List ℕ) (h : LogHead) (fault : LogFault) (w : HasNoBlocks bytes fault) → w.head ≡ h →
    HasFaultBehind h.setup h.first (pages_behind bytes) fault
behind_of bytes h fault w is =
    subst (λ (g : LogHead). HasFaultBehind g.setup g.first (pages_behind bytes) fault) is w.behind

pub no_fault : (bytes : List ℕ) (file : LogFile) (fault : LogFault) → IsBytes bytes → length bytes < 2 ^ 50 →
    HoldsLog bytes file → HasLogFault bytes fault → ⊥
no_fault bytes file fault are few h (inl short) = omega (arith, h.long, short.short)
no_fault bytes file fault are few h (inr (inl none)) =
    no_head_fault (take 4096 bytes) file.head fault.kind h.head none.refuses
no_fault bytes file fault are few h (inr (inr none)) =
    no_fault_behind file.head.first (low_first (take 4096 bytes) file.head h.head) file.head.setup
    (pages_behind bytes) (behind_are bytes are) (few_pages bytes few) h.found file.blocks.items fault h.read h.blocks
    (behind_of bytes file.head fault none (one_head (take 4096 bytes) none.head file.head none.has_head h.head))

pub one_fault : (bytes : List ℕ) (f g : LogFault) → IsBytes bytes → length bytes < 2 ^ 50 → HasLogFault bytes f →
    HasLogFault bytes g → f ≡ g
one_fault bytes f g are few (inl a) (inl b) = same_fault f g (a.kind_is ∙ sym b.kind_is) (a.page_is ∙ sym b.page_is)
one_fault bytes f g are few (inl a) (inr (inl b)) = absurd (omega (arith, a.short, b.long))
one_fault bytes f g are few (inl a) (inr (inr b)) = absurd (omega (arith, a.short, b.long))
one_fault bytes f g are few (inr (inl a)) (inl b) = absurd (omega (arith, a.long, b.short))
one_fault bytes f g are few (inr (inr a)) (inl b) = absurd (omega (arith, a.long, b.short))
one_fault bytes f g are few (inr (inl a)) (inr (inl b)) =
    same_fault f g (one_head_fault (take 4096 bytes) f.kind g.kind a.refuses b.refuses) (a.page_is ∙ sym b.page_is)
one_fault bytes f g are few (inr (inl a)) (inr (inr b)) =
    absurd (no_head_fault (take 4096 bytes) b.head f.kind b.has_head a.refuses)
one_fault bytes f g are few (inr (inr a)) (inr (inl b)) =
    absurd (no_head_fault (take 4096 bytes) a.head g.kind a.has_head b.refuses)
one_fault bytes f g are few (inr (inr a)) (inr (inr b)) =
    one_fault_behind a.head.first (low_first (take 4096 bytes) a.head a.has_head) a.head.setup (pages_behind bytes)
    (behind_are bytes are) (few_pages bytes few) f g a.behind
    (behind_of bytes a.head g b (one_head (take 4096 bytes) b.head a.head b.has_head a.has_head))

-- The front of a log is the longest beginning of whole blocks.
use Rattle.std.proofs.Common.{◌≡◌, ◌⊎◌, inl, inr, ⊎_elim, ℕ, ◌+◌, ◌-◌, ◌*◌, ◌^◌, ◌<◌, ◌≤◌, List, [], ◌∷◌, ◌++◌}
use Rattle.std.proofs.Common.{length, take, drop, Ok, Err, sym, ap, subst, ◌∙◌, append_assoc, length-append}
use Rattle.std.proofs.Common.{arith}
use Rattle.std.proofs.lemmas.List.{append-nil, append_cancel_left, length-drop, length-take, take_all}
use Rattle.std.proofs.lemmas.Bool.{cases_lt}
use Rattle.std.specs.Prelude.{min}
use Rattle.std.specs.List.{AllByRecursion}
use Rattle.batch_store.specs.Setups.{Setting, IsSetting}
use Rattle.log_page.specs.Pages.{IsBytes}
use Rattle.log_blocks.specs.Blocks.{Page, ArePages, IsBlock, block_pages, log_pages, place_behind}
use Rattle.log_blocks.specs.Blocks.{Block as Chunks}
use Rattle.log_blocks.specs.Files.{page_count}
use Rattle.log_blocks.specs.Reading.{IsTorn, read_pages}
use Rattle.log_blocks.specs.declared.fault.LogFault.{LogFault}
use Rattle.log_blocks.proofs.Counts.{torn_front}
use Rattle.log_blocks.proofs.Sound.{fault_holds, logs_read, read_holds}
use Rattle.log_blocks.proofs.Torn.{length-pages_from, settled_log_read}
use Rattle.log_blocks.proofs.FilePages.{pages_push}
use Rattle.log_head.specs.Heads.{HasHead, RefusesPage}
use Rattle.log_head.specs.declared.head.LogHead.{LogHead}
use Rattle.log_head.proofs.HeadLaws.{no_fault as no_head_fault, one_head}
use Rattle.log_read.specs.Logs.{AreBlocks, HoldsLog, HasBadBlock, HasBadPage, HasFaultBehind, pages_behind}
use Rattle.log_read.specs.Outcomes.{HasLogFault, HasNoBlocks}
use Rattle.log_read.specs.declared.file.Block.{Block}
use Rattle.log_read.specs.declared.file.LogFile.{LogFile}
use Rattle.log_read.proofs.LogFacts.{behind_are, length-pages}
use Rattle.snap_salvage.specs.Fronts.{Begins, IsFront}
use Rattle.snap_salvage.proofs.PartLemmas.{part_long, part_pages, same_head}
use Rattle.snap_salvage.proofs.BlockLemmas.{all_but_last, begin_blocks, begun, blocks_in, fault_behind, front_are}
use Rattle.snap_salvage.proofs.BlockLemmas.{fits_in, last_end, none_held, none_more, ok_is_no_err, shorter_begins}

-- The first of the pages are a log of these blocks.
pub record IsPart (s : Setting) (first : ℕ) (pages : List Page) (blocks : List Block) : Type 0 where
  pub front : List Page
  pub rest : List Page
  pub whole : pages ≡ front ++ rest
  pub found : List Chunks
  pub read : read_pages first front ≡ Ok found
  pub held : AreBlocks s 1 found blocks

module _ (s : Setting) (first : ℕ) (pages : List Page) (is : IsSetting s) (low : first ≤ 2 ^ 30)
    (are : ArePages pages) (few : length pages < 2 ^ 50) where
  front_pages : (front rest : List Page) → pages ≡ front ++ rest → ArePages front
  front_pages front rest whole = front_are front rest (subst (λ (l : List Page). ArePages l) whole are)

  front_few : (front rest : List Page) → pages ≡ front ++ rest → length front < 2 ^ 50
  front_few front rest whole =
      omega (arith, ap (λ (l : List Page). length l) whole, length-append front rest, few)

  each_block : (front rest : List Page) (found : List Chunks) → pages ≡ front ++ rest →
      read_pages first front ≡ Ok found → AllByRecursion IsBlock found
  each_block front rest found whole read = (read_holds first front found (front_pages front rest whole) read).each

  -- blocks that begin those of a part
  begin_part : (blocks others : List Block) (a : IsPart s first pages blocks) (b : IsPart s first pages others) (more : List Chunks) →
      a.found ≡ b.found ++ more → Begins others blocks
  begin_part blocks others a b more same =
      begin_blocks s 1 b.found more others blocks is (each_block b.front b.rest b.found b.whole b.read) b.held
      (subst (λ (l : List Chunks). AreBlocks s 1 l blocks) same a.held)

  -- a part that is no longer than another begins it
  pub shorter_part : (blocks others : List Block) (a : IsPart s first pages blocks) (b : IsPart s first pages others) →
      length b.front ≤ length a.front → Begins others blocks
  shorter_part blocks others a b le =
      let on = shorter_begins b.front b.rest a.front a.rest (sym b.whole ∙ a.whole) le in
      let more = begun first low b.front on.0 b.found a.found (front_few b.front b.rest b.whole)
      (front_pages b.front b.rest b.whole) b.read (ap (read_pages first) (sym on.1) ∙ a.read) in
      begin_part blocks others a b more.0 more.1

  -- a part that has the pages of these blocks has these blocks
  has_blocks : (blocks : List Block) (a : IsPart s first pages blocks) (good : List Chunks) (tail : List Page) →
      AllByRecursion IsBlock good → pages ≡ log_pages first good ++ tail →
      length (log_pages first good) ≤ length a.front → (more : List Chunks) × (a.found ≡ good ++ more)
  has_blocks blocks a good tail each whole le =
      let on = shorter_begins (log_pages first good) tail a.front a.rest (sym whole ∙ a.whole) le in
      blocks_in first low good a.found on.0 each
      (subst (λ (l : List Page). length l < 2 ^ 50) on.1 (front_few a.front a.rest a.whole))
      (ap (read_pages first) (sym on.1) ∙ a.read)

  joined_more : (blocks others : List Block) (a : IsPart s first pages blocks) (b : IsPart s first pages others) (good more later : List Chunks) →
      a.found ≡ good ++ later → good ≡ b.found ++ more → Begins others blocks
  joined_more blocks others a b good more later all same =
      begin_part blocks others a b (more ++ later)
      (all ∙ ap (λ (l : List Chunks). l ++ later) same ∙ append_assoc b.found more later)

  -- where a page is the fault, a part goes no further than the blocks before it
  page_ends : (fault : LogFault) (bad : HasBadPage s first pages fault) (others : List Block) (b : IsPart s first pages others) →
      (more : List Chunks) × (bad.good ≡ b.found ++ more)
  page_ends fault bad others b = elim (cases_lt (length bad.front) (length b.front)) [
    | inl longer ↦
        let with_page : pages ≡ (bad.front ++ bad.page ∷ []) ++ bad.behind =
        bad.pages_are ∙ sym (append_assoc bad.front (bad.page ∷ []) bad.behind) in
        let on = shorter_begins (bad.front ++ bad.page ∷ []) bad.behind b.front b.rest (sym with_page ∙ b.whole)
        (omega (arith, length-append bad.front (bad.page ∷ []))) in
        let here : b.front ≡ bad.front ++ bad.page ∷ on.0 =
        on.1 ∙ append_assoc bad.front (bad.page ∷ []) on.0 in
        absurd (ok_is_no_err b.found fault (sym b.read ∙ ap (read_pages first) here ∙ bad.refused on.0))
    | inr shorter ↦
        let on = shorter_begins b.front b.rest bad.front (bad.page ∷ bad.behind) (sym b.whole ∙ bad.pages_are) shorter in
        begun first low b.front on.0 b.found bad.good (front_few b.front b.rest b.whole)
        (front_pages b.front b.rest b.whole) b.read (ap (read_pages first) (sym on.1) ∙ bad.read)
  ]

  cut_last : (good gs more : List Chunks) (block : Chunks) → good ++ block ∷ [] ≡ gs ++ more →
      ((gs ≡ (good ++ block ∷ []) ++ []) ⊎ ((cut : List Chunks) × (good ≡ gs ++ cut)))
  cut_last good gs [] block same = inl (sym (append-nil gs) ∙ sym same ∙ sym (append-nil (good ++ block ∷ [])))
  cut_last good gs (x ∷ more) block same = inr (all_but_last good gs block x more same)

  -- and where a block is
  block_ends : (fault : LogFault) (bad : HasBadBlock s first pages fault) (others : List Block) (b : IsPart s first pages others) →
      (more : List Chunks) × (bad.good ≡ b.found ++ more)
  block_ends fault bad others b = elim (cases_lt (length b.front) (length bad.front)) [
    | inr longer ↦
        let on = shorter_begins bad.front bad.behind b.front b.rest (sym bad.pages_are ∙ b.whole) longer in
        let more = begun first low bad.front on.0 (bad.good ++ bad.block ∷ []) b.found
        (front_few bad.front bad.behind bad.pages_are) (front_pages bad.front bad.behind bad.pages_are) bad.read
        (ap (read_pages first) (sym on.1) ∙ b.read) in
        absurd (none_held s b.found bad.good more.0 bad.block others more.1 b.held bad.none)
    | inl shorter ↦
        let on = shorter_begins b.front b.rest bad.front bad.behind (sym b.whole ∙ bad.pages_are) (omega arith) in
        let more = begun first low b.front on.0 b.found (bad.good ++ bad.block ∷ [])
        (front_few b.front b.rest b.whole) (front_pages b.front b.rest b.whole) b.read
        (ap (read_pages first) (sym on.1) ∙ bad.read) in
        ⊎_elim (λ all. absurd (none_held s b.found bad.good [] bad.block others all b.held bad.none))
        (λ cut. cut) (cut_last bad.good b.found more.0 bad.block more.1)
  ]

  first_blocks : (good : List Chunks) (block : Chunks) → AllByRecursion IsBlock (good ++ block ∷ []) →
      AllByRecursion IsBlock good
  first_blocks [] block each = tt
  first_blocks (g ∷ good) block each = (each.0, first_blocks good block each.1)

  -- the part before the page of a fault is the longest
  pub longest_part : (fault : LogFault) → HasFaultBehind s first pages fault → (blocks others : List Block)
      (a : IsPart s first pages blocks) (b : IsPart s first pages others) → length a.front ≡ min (fault.page - 1) (length pages) →
      Begins others blocks
  longest_part fault (inl bad) blocks others a b long =
      let reads = read_holds first bad.front bad.good (front_pages bad.front (bad.page ∷ bad.behind) bad.pages_are)
      bad.read in
      let tail = reads.rest ++ bad.page ∷ bad.behind in
      let whole : pages ≡ log_pages first bad.good ++ tail =
      bad.pages_are ∙ ap (λ (l : List Page). l ++ bad.page ∷ bad.behind) reads.whole
      ∙ append_assoc (log_pages first bad.good) reads.rest (bad.page ∷ bad.behind) in
      let behind = fault_behind first low bad.front (bad.page ∷ []) bad.good fault
      (front_few bad.front (bad.page ∷ bad.behind) bad.pages_are)
      (front_pages bad.front (bad.page ∷ bad.behind) bad.pages_are) bad.read (bad.refused []) in
      let all = has_blocks blocks a bad.good tail reads.each whole
      (omega (
        arith,
        long,
        behind,
        ap (λ (l : List Page). length l) whole,
        length-append (log_pages first bad.good)
            tail,
      )) in
      let ends = page_ends fault bad others b in
      joined_more blocks others a b bad.good ends.0 all.0 all.1 ends.1
  longest_part fault (inr bad) blocks others a b long =
      let reads = read_holds first bad.front (bad.good ++ bad.block ∷ [])
      (front_pages bad.front bad.behind bad.pages_are) bad.read in
      let pushed = pages_push first bad.good bad.block in
      let last = log_pages first (bad.good ++ bad.block ∷ []) in
      let each = first_blocks bad.good bad.block reads.each in
      let block = block_pages
      (place_behind first bad.good) bad.block in
      let tail = (block ++ reads.rest) ++ bad.behind in
      let whole : pages ≡ log_pages first bad.good ++ tail =
      bad.pages_are ∙ ap (λ (l : List Page). l ++ bad.behind) (reads.whole
      ∙ ap (λ (l : List Page). l ++ reads.rest) pushed
      ∙ append_assoc (log_pages first bad.good) block reads.rest)
      ∙ append_assoc (log_pages first bad.good) (block ++ reads.rest) bad.behind in
      let page : fault.page ≡ 1 + length (log_pages first bad.good) =
      bad.page_is ∙ last_end 1 0 first bad.good bad.block in
      let all = has_blocks blocks a bad.good tail each whole
      (omega (arith, long, page, ap (λ (l : List Page). length l) whole, length-append (log_pages first bad.good) tail))
      in
      let ends = block_ends fault bad others b in
      joined_more blocks others a b bad.good ends.0 all.0 all.1 ends.1

-- ---- whole files

few_pages : (bytes : List ℕ) → length bytes < 2 ^ 50 → length (pages_behind bytes) < 2 ^ 50
few_pages bytes few =
    let count : length (pages_behind bytes) ≡ page_count (drop 4096 bytes) =
    length-pages 0 (page_count (drop 4096 bytes)) (drop 4096 bytes) in
    omega (arith, count, length-drop 4096 bytes)

low_first : (page : List ℕ) (h : LogHead) → HasHead page h → h.first ≤ 2 ^ 30
low_first page h has = omega (arith, has.is.first, has.is.setup.batches.1)

module _ (bytes : List ℕ) (h : LogHead) (has : HasHead (take 4096 bytes) h) where
  -- a log that some first pages are, as a part of all
  part_of : (n : ℕ) (file : LogFile) → HoldsLog (take (4096 * (n + 1)) bytes) file →
      (a : IsPart h.setup h.first (pages_behind bytes) file.blocks.items) ×
      (length a.front ≡ min n (length (pages_behind bytes)))
  part_of n file holds =
      let part = take (4096 * (n + 1)) bytes in
      let head : file.head ≡ h =
      one_head (take 4096 bytes) file.head h
      (subst (λ (p : List ℕ). HasHead p file.head) (same_head (4096 * (n + 1)) bytes holds.long) holds.head) has in
      let behind = part_pages n bytes in (
        record {
          front = pages_behind part;
          rest = behind.0;
          whole = behind.1;
          found = holds.found;
          read = subst (λ (g : LogHead). read_pages g.first (pages_behind part) ≡ Ok holds.found) head holds.read;
          held = subst (λ (g : LogHead). AreBlocks g.setup 1 holds.found file.blocks.items) head holds.blocks;
        },
        part_long n bytes,
      )

  part_at : (n : ℕ) (file : LogFile) → HoldsLog (take (4096 * n) bytes) file →
      (a : IsPart h.setup h.first (pages_behind bytes) file.blocks.items) ×
      (length a.front ≡ min (n - 1) (length (pages_behind bytes)))
  part_at n file holds =
      let more : n ≡ (n - 1) + 1 = omega (arith, holds.long, length-take (4096 * n) bytes) in
      part_of (n - 1) file (subst (λ (k : ℕ). HoldsLog (take (4096 * k) bytes) file) more holds)

pub whole_front : (bytes : List ℕ) (pages : ℕ) (file : LogFile) → IsBytes bytes → length bytes < 2 ^ 50 →
    length bytes ≤ 4096 * pages → HoldsLog bytes file → IsFront bytes pages file
whole_front bytes pages file are few all holds =
    let h = file.head in
    let here : HoldsLog (take (4096 * pages) bytes) file =
    subst (λ (l : List ℕ). HoldsLog l file) (sym (take_all (4096 * pages) bytes all)) holds in
    let a = part_at bytes h holds.head pages file here in
    record {
      holds = here;
      longest = λ n other found.
          let b = part_at bytes h holds.head n other found in
          shorter_part h.setup h.first (pages_behind bytes) holds.head.is.setup (low_first (take 4096 bytes) h holds.head)
          (behind_are bytes are) (few_pages bytes few) file.blocks.items other.blocks.items a.0 b.0
          (omega (
            arith,
            a.1,
            b.1,
            all,
            length-pages 0 (page_count (drop 4096 bytes)) (drop 4096 bytes),
            length-drop 4096 bytes,
          ));
    }

fault_ends : (bytes : List ℕ) (fault : LogFault) (file : LogFile) → IsBytes bytes → length bytes < 2 ^ 50 →
    HasNoBlocks bytes fault → HoldsLog (take (4096 * fault.page) bytes) file → (n : ℕ) (other : LogFile) →
    HoldsLog (take (4096 * n) bytes) other → Begins other.blocks.items file.blocks.items
fault_ends bytes fault file are few none holds n other found =
    let h = none.head in
    let a = part_at bytes h none.has_head fault.page file holds in
    let b = part_at bytes h none.has_head n other found in
    longest_part h.setup h.first (pages_behind bytes) none.has_head.is.setup
    (low_first (take 4096 bytes) h none.has_head) (behind_are bytes are) (few_pages bytes few) fault none.behind
    file.blocks.items other.blocks.items a.0 b.0 a.1

no_page : (bytes : List ℕ) (fault : LogFault) (file : LogFile) → fault.page ≡ 0 →
    HoldsLog (take (4096 * fault.page) bytes) file → ⊥
no_page bytes fault file none holds = omega (arith, holds.long, length-take (4096 * fault.page) bytes)

pub fault_front : (bytes : List ℕ) (fault : LogFault) (file : LogFile) → IsBytes bytes → length bytes < 2 ^ 50 →
    HasLogFault bytes fault → HoldsLog (take (4096 * fault.page) bytes) file → IsFront bytes fault.page file
fault_front bytes fault file are few (inl short) holds = absurd (no_page bytes fault file short.page_is holds)
fault_front bytes fault file are few (inr (inl none)) holds = absurd (no_page bytes fault file none.page_is holds)
fault_front bytes fault file are few (inr (inr none)) holds =
    record { holds = holds; longest = fault_ends bytes fault file are few none holds }

-- ---- before a fault

module _ (s : Setting) (first : ℕ) (low : first ≤ 2 ^ 30) where
  -- a beginning that has the pages of all blocks that are read is read as these
  read_less : (front more : List Page) (good : List Chunks) → length (front ++ more) < 2 ^ 50 → ArePages (front ++ more) →
      read_pages first (front ++ more) ≡ Ok good → length (log_pages first good) ≤ length front →
      read_pages first front ≡ Ok good
  read_less front more good few are read le =
      let reads = read_holds first (front ++ more) good are read in
      let on = shorter_begins (log_pages first good) reads.rest front more (sym reads.whole) le in
      let rest : reads.rest ≡ on.0 ++ more =
      append_cancel_left (log_pages first good) reads.rest (on.0 ++ more)
      (sym reads.whole ∙ ap (λ (l : List Page). l ++ more) on.1
      ∙ append_assoc (log_pages first good) on.0 more) in
      let place = place_behind first good in
      logs_read first front good (front_are front more are)
      (fits_in first low (front ++ more) good reads.rest few reads.whole reads.each)
      (record {
        rest = on.0;
        whole = on.1;
        each = reads.each;
        torn = torn_front place on.0 more (subst (λ (l : List Page). IsTorn place l) rest reads.torn);
        unfinished = λ block behind fits fills is.
            reads.unfinished block (behind ++ more) fits fills
            (rest ∙ ap (λ (l : List Page). l ++ more) is ∙ append_assoc (block_pages place block) behind more);
      })

  -- so it is where it has no other pages
  read_just : (front : List Page) (good : List Chunks) → front ≡ log_pages first good → AllByRecursion IsBlock good →
      length front < 2 ^ 50 → read_pages first front ≡ Ok good
  read_just front good is each few =
      let nil : log_pages first good ++ [] ≡ log_pages first good = append-nil (log_pages first good) in
      ap (read_pages first) (is ∙ sym nil)
      ∙ settled_log_read first good 0 (fits_in first low front good [] few (is ∙ sym nil) each) each

  -- what is read as these blocks, which hold batches, has no fault
  no_fault_in : (pages : List Page) (found : List Chunks) (blocks : List Block) (fault : LogFault) → ArePages pages →
      length pages < 2 ^ 50 → read_pages first pages ≡ Ok found → AreBlocks s 1 found blocks →
      HasFaultBehind s first pages fault → ⊥
  no_fault_in pages found blocks fault are few read held (inl bad) =
      ok_is_no_err found fault (sym read ∙ ap (read_pages first) bad.pages_are ∙ bad.refused bad.behind)
  no_fault_in pages found blocks fault are few read held (inr bad) =
      let more = begun first low bad.front bad.behind (bad.good ++ bad.block ∷ []) found
      (omega (arith, ap (λ (l : List Page). length l) bad.pages_are, length-append bad.front bad.behind, few))
      (front_are bad.front bad.behind (subst (λ (l : List Page). ArePages l) bad.pages_are are)) bad.read
      (ap (read_pages first) (sym bad.pages_are) ∙ read) in
      none_held s found bad.good more.0 bad.block blocks more.1 held bad.none

  -- a fault of a page isn't behind that page
  fault_within : (front : List Page) (page : Page) (fault : LogFault) → ArePages (front ++ page ∷ []) →
      read_pages first (front ++ page ∷ []) ≡ Err fault → fault.page ≤ 1 + length front
  fault_within front page fault are read = elim (fault_holds first (front ++ page ∷ []) fault are read) [
    | inl (kind, bad) ↦ omega (
      arith,
      bad.numbered,
      ap (λ (l : List Page). length l) bad.whole,
      length-append front (page ∷ []),
      length-append bad.front (bad.page ∷ bad.behind),
    )
    | inr (kind, bad) ↦ omega (
      arith,
      bad.numbered,
      ap (λ (l : List Page). length l) bad.whole,
      length-append front (page ∷ []),
      length-append (log_pages first bad.blocks)
          (block_pages (place_behind first bad.blocks) bad.block ++ bad.behind),
      length-append (block_pages (place_behind first bad.blocks) bad.block) bad.behind,
      length-pages_from (place_behind first bad.blocks) 0 (length bad.block) bad.block,
      bad.fills.some,
    )
  ]

  module _ (pages : List Page) (are : ArePages pages) (few : length pages < 2 ^ 50) (fault : LogFault)
      (front rest : List Page) (whole : pages ≡ front ++ rest)
      (long : length front ≡ min (fault.page - 1) (length pages)) where
    -- The pages before the fault are read as blocks that hold batches.
    record IsSound : Type 0 where
      found : List Chunks
      blocks : List Block
      read : read_pages first front ≡ Ok found
      held : AreBlocks s 1 found blocks

    front_are_pages : ArePages front
    front_are_pages = front_are front rest (subst (λ (l : List Page). ArePages l) whole are)

    few_front : length front < 2 ^ 50
    few_front = omega (arith, long, few)

    before_fault : HasFaultBehind s first pages fault → IsSound
    before_fault (inl bad) =
        let with_page : pages ≡ (bad.front ++ bad.page ∷ []) ++ bad.behind =
        bad.pages_are ∙ sym (append_assoc bad.front (bad.page ∷ []) bad.behind) in
        let page_are : ArePages (bad.front ++ bad.page ∷ []) =
        front_are (bad.front ++ bad.page ∷ []) bad.behind (subst (λ (l : List Page). ArePages l) with_page are) in
        let within = fault_within bad.front bad.page fault page_are (bad.refused []) in
        let bad_few : length bad.front < 2 ^ 50 =
        omega (
          arith,
          ap (λ (l : List Page). length l) bad.pages_are,
          length-append bad.front
              (bad.page ∷ bad.behind),
          few,
        ) in
        let bad_are = front_are bad.front (bad.page ∷ []) page_are in
        let behind = fault_behind first low bad.front (bad.page ∷ []) bad.good fault bad_few bad_are bad.read
        (bad.refused []) in
        let reads = read_holds first bad.front bad.good bad_are bad.read in
        let on = shorter_begins front rest bad.front (bad.page ∷ bad.behind) (sym whole ∙ bad.pages_are)
        (omega (arith, long, within)) in
        record {
          found = bad.good;
          blocks = bad.blocks;
          read = read_less front on.0 bad.good (subst (λ (l : List Page). length l < 2 ^ 50) on.1 bad_few)
              (subst (λ (l : List Page). ArePages l) on.1 bad_are) (ap (read_pages first) (sym on.1) ∙ bad.read)
              (omega (
                arith,
                long,
                behind,
                ap (λ (l : List Page). length l) bad.pages_are,
                ap (λ (l : List Page). length l) reads.whole,
                length-append bad.front (bad.page ∷ bad.behind),
                length-append (log_pages first bad.good) reads.rest,
              ));
          held = bad.held;
        }
    before_fault (inr bad) =
        let bad_few : length bad.front < 2 ^ 50 =
        omega (arith, ap (λ (l : List Page). length l) bad.pages_are, length-append bad.front bad.behind, few) in
        let bad_are = front_are bad.front bad.behind (subst (λ (l : List Page). ArePages l) bad.pages_are are) in
        let reads = read_holds first bad.front (bad.good ++ bad.block ∷ []) bad_are bad.read in
        let block = block_pages (place_behind first bad.good) bad.block in
        let tail = (block ++ reads.rest) ++ bad.behind in
        let parts : pages ≡ log_pages first bad.good ++ tail =
        bad.pages_are ∙ ap (λ (l : List Page). l ++ bad.behind) (reads.whole
        ∙ ap (λ (l : List Page). l ++ reads.rest) (pages_push first bad.good bad.block)
        ∙ append_assoc (log_pages first bad.good) block reads.rest)
        ∙ append_assoc (log_pages first bad.good) (block ++ reads.rest) bad.behind in
        let page : fault.page ≡ 1 + length (log_pages first bad.good) =
        bad.page_is ∙ last_end 1 0 first bad.good bad.block in
        let same : length front ≡ length (log_pages first bad.good) =
        omega (
          arith,
          long,
          page,
          ap (λ (l : List Page). length l) parts,
          length-append (log_pages first bad.good) tail,
        ) in
        let on = shorter_begins (log_pages first bad.good) tail front rest (sym parts ∙ whole) (omega (arith, same)) in
        let none : on.0 ≡ [] =
        none_more on.0 (omega (
          arith,
          same,
          ap (λ (l : List Page). length l) on.1,
          length-append (log_pages first bad.good) on.0,
        )) in
        record {
          found = bad.good;
          blocks = bad.blocks;
          read = read_just front bad.good (on.1 ∙ ap (λ (l : List Page). log_pages first bad.good ++ l) none
              ∙ append-nil (log_pages first bad.good)) (first_of bad.good bad.block reads.each) few_front;
          held = bad.held;
        }
      where
        first_of : (good : List Chunks) (block : Chunks) → AllByRecursion IsBlock (good ++ block ∷ []) →
            AllByRecursion IsBlock good
        first_of [] block each = tt
        first_of (g ∷ good) block each = (each.0, first_of good block each.1)

    pub none_before : HasFaultBehind s first pages fault → (other : LogFault) → HasFaultBehind s first front other → ⊥
    none_before bad other wrong =
        let sound = before_fault bad in
        no_fault_in front sound.found sound.blocks other front_are_pages few_front sound.read sound.held wrong

module _ (bytes : List ℕ) (fault other : LogFault) (are : IsBytes bytes) (few : length bytes < 2 ^ 50)
    (none : HasNoBlocks bytes fault) (some : 1 ≤ fault.page) where
  n : ℕ
  n = fault.page - 1

  long_part : 4096 ≤ length (take (4096 * (n + 1)) bytes)
  unfolding n
  long_part = omega (arith, none.long, some, length-take (4096 * (fault.page - 1 + 1)) bytes)

  no_fault_before : HasLogFault (take (4096 * (n + 1)) bytes) other → ⊥
  unfolding n
  no_fault_before (inl short) = omega (arith, long_part, short.short)
  no_fault_before (inr (inl bad)) =
      no_head_fault (take 4096 bytes) none.head other.kind none.has_head
      (subst (λ (p : List ℕ). RefusesPage p other.kind) (same_head (4096 * (n + 1)) bytes long_part) bad.refuses)
  no_fault_before (inr (inr bad)) =
      let h = none.head in
      let part = take (4096 * (n + 1)) bytes in
      let head : bad.head ≡ h =
      one_head (take 4096 bytes) bad.head h
      (subst (λ (p : List ℕ). HasHead p bad.head) (same_head (4096 * (n + 1)) bytes long_part) bad.has_head)
      none.has_head in
      let behind = part_pages n bytes in
      none_before h.setup h.first (low_first (take 4096 bytes) h none.has_head) (pages_behind bytes) (behind_are bytes are)
      (few_pages bytes few) fault (pages_behind part) behind.0 behind.1 (part_long n bytes) none.behind other
      (subst (λ (g : LogHead). HasFaultBehind g.setup g.first (pages_behind part) other) head bad.behind)

  no_fault_there : HasLogFault (take (4096 * fault.page) bytes) other → ⊥
  unfolding n
  no_fault_there wrong =
      let same : fault.page ≡ fault.page - 1 + 1 = omega (arith, some) in
      no_fault_before (subst (λ (k : ℕ). HasLogFault (take (4096 * k) bytes) other) same wrong)

-- the pages before that of a fault have none
pub sound_before : (bytes : List ℕ) (fault other : LogFault) → IsBytes bytes → length bytes < 2 ^ 50 →
    HasLogFault bytes fault → 1 ≤ fault.page → HasLogFault (take (4096 * fault.page) bytes) other → ⊥
sound_before bytes fault other are few (inl short) some wrong = omega (arith, short.page_is, some)
sound_before bytes fault other are few (inr (inl none)) some wrong = omega (arith, none.page_is, some)
sound_before bytes fault other are few (inr (inr none)) some wrong =
    no_fault_there bytes fault other are few none some wrong

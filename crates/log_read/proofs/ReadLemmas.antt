-- The head of a log, and one page more behind it.
use Rattle.std.proofs.Common.{◌≡◌, ℕ, ◌+◌, ◌-◌, ◌*◌, ◌/◌, ◌<◌, ◌≤◌, List, [], ◌∷◌, ◌++◌, length, take, drop}
use Rattle.std.proofs.Common.{get_or}
use Rattle.std.proofs.Common.{inl, inr, refl, sym, ap, subst, ◌∙◌, append_assoc, length-append, arith}
use Rattle.std.proofs.lemmas.List.{append-nil, get_or_append_left, get_or-append-add, take_at, drop_at, ext_get_or}
use Rattle.std.proofs.Common.{true, false, nat_eq, IsTrue, IsFalse}
use Rattle.std.proofs.lemmas.Bool.{cases_eq, eq-eqb, ne_eqb}
use Rattle.byte_io.specs.Streams.{Answer}
use Rattle.batch_store.specs.Setups.{Setting}
use Rattle.log_blocks.specs.Blocks.{Page, log_pages}
use Rattle.log_blocks.specs.Reading.{read_pages}
use Rattle.log_blocks.specs.Scanning.{used_pages}
use Rattle.log_blocks.specs.Files.{bytes_from, pages_of, page_count}
use Rattle.log_blocks.specs.declared.fault.LogFault.{LogFault}
use Rattle.log_blocks.specs.declared.fault.LogKind.{LogKind}
use Rattle.log_blocks.specs.declared.fault.LogKind.TheVariants.{TooLong, Truncated}
use Rattle.log_blocks.proofs.FilePages.{pages_same, pages_split, pages_step, next_file_page, listed_bytes}
use Rattle.log_blocks.proofs.ScanLemmas.{scanned_all}
use Rattle.log_head.specs.Heads.{HasHead, RefusesPage}
use Rattle.log_head.specs.declared.head.LogHead.{LogHead}
use Rattle.log_read.specs.Given.{HasEnded, HasFailed, HasNext, IsAt}
use Rattle.log_read.specs.Logs.{AreBlocks, HasFaultBehind, pages_behind}
use Rattle.log_read.specs.Scans.{HasCome}
use Rattle.log_read.specs.Outcomes.{HasNoHead, HasNoBlocks, HasLogFault, ReadsLog, Explains, HasStopped}
use Rattle.log_read.specs.Outcomes.{IsJudged, HasReadHead, IsReading, HasReadAll}
use Rattle.log_read.specs.declared.file.Block.{Block}
use Rattle.log_read.specs.declared.file.LogFile.{LogFile}
use Rattle.log_read.specs.declared.scan.LogScan.{LogScan}
use Rattle.log_read.specs.declared.source.PageSource.{PageSource}
use Rattle.log_read.specs.declared.stop.Stop.{Stop}
use Rattle.log_read.specs.declared.stop.Stop.TheVariants.{Told, Judged}

no_bytes : (l : List ℕ) → length l ≡ 0 → l ≡ []
no_bytes [] e = refl
no_bytes (x ∷ l) e = absurd (omega arith)

-- whether all of a page came
pub all_of : (n : ℕ) → IsTrue (nat_eq n 4096) → n ≡ 4096
all_of n is = elim (cases_eq n 4096) [
  | inl same ↦ same
  | inr other ↦ absurd (wrong (sym (ne_eqb n 4096 other) ∙ is))
]
  where
    wrong : false ≡ true → ⊥
    wrong h = cc

pub few_of : (n : ℕ) → n ≤ 4096 → IsFalse (nat_eq n 4096) → n < 4096
few_of n most not = elim (cases_eq n 4096) [
  | inl same ↦ absurd (wrong (sym (eq-eqb n 4096 same) ∙ not))
  | inr other ↦ omega arith
]
  where
    wrong : true ≡ false → ⊥
    wrong h = cc

-- ---- bytes behind a head page

module _ (page file : List ℕ) (long : length page ≡ 4096) where
  whole_page : 4096 ≤ length (page ++ file)
  whole_page = let e = length-append page file in omega arith

  first_page : take 4096 (page ++ file) ≡ page
  first_page = take_at page file 4096 long

  behind_page : drop 4096 (page ++ file) ≡ file
  behind_page = drop_at page file 4096 long

  -- a fault of the pages behind a head
  no_blocks : (h : LogHead) (s : Setting) (pages : List Page) (fault : LogFault) → HasHead page h → s ≡ h.setup →
      pages_of 0 (page_count file) file ≡ pages → HasFaultBehind s h.first pages fault → HasNoBlocks
      (page ++ file) fault
  no_blocks h s pages fault head setup are wrong = record {
    long = whole_page;
    head = h;
    has_head = subst (λ (p : List ℕ). HasHead p h) (sym first_page) head;
    behind = subst (λ (l : List ℕ). HasFaultBehind h.setup h.first (pages_of 0 (page_count l) l) fault)
        (sym behind_page)
        (subst (λ (l : List Page). HasFaultBehind h.setup h.first l fault) (sym are)
        (subst (λ (x : Setting). HasFaultBehind x h.first pages fault) setup wrong));
  }

  no_head : (fault : LogFault) → RefusesPage page fault.kind → fault.page ≡ 0 → HasNoHead (page ++ file) fault
  no_head fault refuses at = record {
    long = whole_page;
    refuses = subst (λ (p : List ℕ). RefusesPage p fault.kind) (sym first_page) refuses;
    page_is = at;
  }

-- ---- one page more

module _ (count : ℕ) (behind piece p : List ℕ) (whole : length behind ≡ 4096 * count) (long : length p ≡ 4096)
    (same : (k : ℕ) → k < 4096 → get_or p k 0 ≡ get_or piece k 0) where
  pages_kept : (rest : List ℕ) → pages_of 0 count (behind ++ rest) ≡ pages_of 0 count behind
  pages_kept rest =
      pages_same 0 count (behind ++ rest) behind (λ i low high. get_or_append_left behind rest 0 i (omega
      (arith, whole)))

  moved : (rest : List ℕ) (k : ℕ) → get_or (behind ++ rest) (4096 * count + k) 0 ≡ get_or rest k 0
  moved rest k =
      ap (λ (n : ℕ). get_or (behind ++ rest) (n + k) 0) (sym whole) ∙ get_or-append-add behind rest k 0

  page_at : (rest : List ℕ) → ((k : ℕ) → k < 4096 → get_or piece k 0 ≡ get_or rest k 0) →
      p ≡ bytes_from (4096 * count) 4096 (behind ++ rest)
  page_at rest on =
      listed_bytes 4096 (4096 * count) p (behind ++ rest) long (λ k lt. same k lt ∙ on k lt ∙ sym (moved rest k))

  one_more : pages_of 0 (count + 1) (behind ++ piece) ≡ pages_of 0 count behind ++ p ∷ []
  one_more =
      pages_step count (behind ++ piece)
      ∙ ap (λ (l : List Page). l ++ bytes_from (4096 * count) 4096 (behind ++ piece) ∷ []) (pages_kept piece)
      ∙ ap (λ (q : Page). pages_of 0 count behind ++ q ∷ []) (sym (page_at piece (λ k lt. refl)))

  and_more : (rest : List ℕ) → ((k : ℕ) → k < 4096 → get_or piece k 0 ≡ get_or rest k 0) → 0 < length rest →
      (pages : List Page) × (pages_of 0 (page_count (behind ++ rest)) (behind ++ rest) ≡ pages_of 0 count behind ++ p ∷
      pages)
  and_more rest on some =
      let file = behind ++ rest in
      let n = page_count file in
      let e = length-append behind rest in
      let lt : count < n = omega (arith, e, whole, some) in
      let more : count + (n - count) ≡ n = omega arith in
      let none : 0 + count ≡ count = omega arith in
      let pages = pages_of (count + 1) (n - (count + 1)) file in (
        pages,
        (
            ap (λ (k : ℕ). pages_of 0 k file) (sym more)
            ∙ pages_split 0 count (n - count) file
            ∙ ap (λ (l : List Page). l ++ pages_of (0 + count) (n - count) file) (pages_kept rest)
            ∙ ap (λ (k : ℕ). pages_of 0 count behind ++ pages_of k (n - count) file) none
            ∙ ap (λ (l : List Page). pages_of 0 count behind ++ l) (next_file_page count n file lt)
            ∙ ap (λ (q : Page). pages_of 0 count behind ++ q ∷ pages) (sym (page_at rest on))
            ),
      )

none_of : (file : List ℕ) → pages_of 0 0 file ≡ []
unfolding pages_of
none_of file = refl

module _ {S : Type 0} (gives : S → Answer → S → Type 0) (failures : S → ℕ) (ended : Type 0) (max_bytes : ℕ)
    (s : S) where
  pub source_failed : (t : S) (kind : LogKind) (fault : LogFault) (most : ℕ) → fault.kind ≡ kind →
      (kind ≡ TooLong → fault.page ≡ most / 4096) → most ≡ max_bytes → HasFailed gives failures max_bytes s t kind →
      Explains gives failures ended max_bytes s t fault
  source_failed t kind fault most is page limit failed = inr (inl (record {
    failed = subst (λ (k : LogKind). HasFailed gives failures max_bytes s t k) (sym is) failed;
    page_is = λ long. page (sym is ∙ long) ∙ ap (λ (n : ℕ). n / 4096) limit;
  }))

  pub told_of : (t : S) (source : PageSource) (stop : Stop) (fault : LogFault) → stop ≡ Told fault →
      HasStopped gives failures ended max_bytes s t source stop → Explains gives failures ended max_bytes s t fault
  told_of t source stop fault is stopped =
      subst (λ (x : Stop). HasStopped gives failures ended max_bytes s t source x) is stopped

  pub judged_of : (t : S) (source : PageSource) (stop : Stop) (fault : LogFault) → stop ≡ Judged fault →
      HasStopped gives failures ended max_bytes s t source stop → IsJudged gives failures s t source fault
  judged_of t source stop fault is stopped =
      subst (λ (x : Stop). HasStopped gives failures ended max_bytes s t source x) is stopped

  -- ---- the head

  module _ (t : S) (source : PageSource) (n : ℕ) (p : List ℕ) (long : length p ≡ 4096)
      (next : HasNext gives failures ended s t source [] n p) where
    pub truncated : (fault : LogFault) → fault.kind ≡ Truncated → fault.page ≡ 0 → source.max_bytes ≡ max_bytes → n <
        4096 →
        Explains gives failures ended max_bytes s t fault
    truncated fault is at limit less =
        let l = next.long in
        inr (inr (record {
          bytes = next.piece;
          end = subst (λ (m : ℕ). HasEnded gives failures ended m s t next.piece) limit (next.last less);
          wrong = inl (record { short = omega arith; kind_is = is; page_is = at });
        }))

    piece_is : n ≡ 4096 → p ≡ next.piece
    piece_is all =
        let l = next.long in
        ext_get_or 0 p next.piece (omega arith) (λ i lt. next.same i (omega arith))

    pub head_read : (h : LogHead) → HasHead p h → n ≡ 4096 → HasReadHead gives failures s t source h
    head_read h head all = record {
      page = next.piece;
      long = next.long ∙ all;
      head = subst (λ (q : List ℕ). HasHead q h) (piece_is all) head;
      at = next.whole all;
    }

    pub head_refused : (fault : LogFault) → RefusesPage p fault.kind → fault.page ≡ 0 → n ≡ 4096 →
        IsJudged gives failures s t source fault
    head_refused fault refuses at all = record {
      done = next.piece;
      at = next.whole all;
      wrong = λ more. subst (λ (l : List ℕ). HasLogFault l fault) (sym (append_assoc next.piece source.buffer more))
          (inr (inl (no_head next.piece (source.buffer ++ more) (next.long ∙ all) fault
          (subst (λ (q : List ℕ). RefusesPage q fault.kind) (piece_is all) refuses) at)));
    }

  pub begins_behind : (t : S) (source : PageSource) (h : LogHead) (log : LogScan) → HasReadHead gives failures s t
      source h →
      log.reader ≡ h.setup → HasCome h.first log [] → IsReading gives failures s t source h log
  begins_behind t source h log read setup come = record {
    page = read.page;
    long = read.long;
    head = read.head;
    setup = setup;
    behind = [];
    count = 0;
    behind_long = refl;
    come = subst (λ (l : List Page). HasCome h.first log l) (sym (none_of [])) come;
    at = subst (λ (l : List ℕ). IsAt gives failures s t source l) (sym (append-nil read.page)) read.at;
  }

  -- ---- the pages behind it

  module _ (m t : S) (source new : PageSource) (h : LogHead) (log : LogScan)
      (x : IsReading gives failures s m source h log) (n : ℕ) (p : List ℕ) (long : length p ≡ 4096)
      (next : HasNext gives failures ended s t new (x.page ++ x.behind) n p) where
    pub read_to_end : n ≡ 0 → new.max_bytes ≡ max_bytes → HasReadAll gives failures ended max_bytes s t h log
    read_to_end none limit =
        let l = x.behind_long in
        let all : x.count ≡ page_count x.behind = omega arith in
        let no : next.piece ≡ [] = no_bytes next.piece (next.long ∙ none) in
        record {
          page = x.page;
          long = x.long;
          head = x.head;
          setup = x.setup;
          behind = x.behind;
          come = subst (λ (k : ℕ). HasCome h.first log (pages_of 0 k x.behind)) all x.come;
          end = subst (λ (k : ℕ). HasEnded gives failures ended k s t (x.page ++ x.behind)) limit
              (subst (λ (b : List ℕ). HasEnded gives failures ended new.max_bytes s t b)
              (ap (λ (b : List ℕ). (x.page ++ x.behind) ++ b) no ∙ append-nil (x.page ++ x.behind)) (next.last
              (omega arith)));
        }

    come_more : (after : LogScan) → HasCome h.first after (pages_of 0 x.count x.behind ++ p ∷ []) →
        HasCome h.first after (pages_of 0 (x.count + 1) (x.behind ++ next.piece))
    come_more after come =
        subst (λ (l : List Page). HasCome h.first after l) (sym (one_more x.count x.behind next.piece p x.behind_long
        long next.same)) come

    pub page_taken : (after : LogScan) → after.reader ≡ log.reader →
        HasCome h.first after (pages_of 0 x.count x.behind ++ p ∷ []) → n ≡ 4096 → IsReading gives failures s t new h
        after
    page_taken after setup come all =
        let l = x.behind_long in
        let a = next.long in
        let e = length-append x.behind next.piece in
        record {
          page = x.page;
          long = x.long;
          head = x.head;
          setup = setup ∙ x.setup;
          behind = x.behind ++ next.piece;
          count = x.count + 1;
          behind_long = omega arith;
          come = come_more after come;
          at = subst (λ (b : List ℕ). IsAt gives failures s t new b) (append_assoc x.page x.behind next.piece)
              (next.whole all);
        }

    pub last_taken : (after : LogScan) → after.reader ≡ log.reader →
        HasCome h.first after (pages_of 0 x.count x.behind ++ p ∷ []) → new.max_bytes ≡ max_bytes → n < 4096 → 0 < n →
        HasReadAll gives failures ended max_bytes s t h after
    last_taken after setup come limit less some =
        let l = x.behind_long in
        let a = next.long in
        let e = length-append x.behind next.piece in
        let all : x.count + 1 ≡ page_count (x.behind ++ next.piece) = omega arith in
        record {
          page = x.page;
          long = x.long;
          head = x.head;
          setup = setup ∙ x.setup;
          behind = x.behind ++ next.piece;
          come = subst (λ (k : ℕ). HasCome h.first after (pages_of 0 k (x.behind ++ next.piece))) all
              (come_more after come);
          end = subst (λ (k : ℕ). HasEnded gives failures ended k s t (x.page ++ (x.behind ++ next.piece))) limit
              (subst (λ (b : List ℕ). HasEnded gives failures ended new.max_bytes s t b)
              (append_assoc x.page x.behind next.piece) (next.last less));
        }

    -- a fault that stands whatever pages follow
    wrong_with : (fault : LogFault) → ((rest : List Page) →
        HasFaultBehind log.reader h.first (pages_of 0 x.count x.behind ++ p ∷ rest) fault) → (rest : List ℕ) →
        ((k : ℕ) → k < 4096 → get_or next.piece k 0 ≡ get_or rest k 0) → 0 < length rest →
        HasLogFault (x.page ++ (x.behind ++ rest)) fault
    wrong_with fault wrong rest on some =
        let more = and_more x.count x.behind next.piece p x.behind_long long next.same rest on some in
        inr (inr (no_blocks x.page (x.behind ++ rest) x.long h log.reader
        (pages_of 0 x.count x.behind ++ p ∷ more.0) fault x.head x.setup more.1 (wrong more.0)))

    pub last_refused : (fault : LogFault) → ((rest : List Page) →
        HasFaultBehind log.reader h.first (pages_of 0 x.count x.behind ++ p ∷ rest) fault) → new.max_bytes ≡ max_bytes →
        n < 4096 → 0 < n → Explains gives failures ended max_bytes s t fault
    last_refused fault wrong limit less some =
        let a = next.long in
        inr (inr (record {
          bytes = x.page ++ (x.behind ++ next.piece);
          end = subst (λ (k : ℕ). HasEnded gives failures ended k s t (x.page ++ (x.behind ++ next.piece))) limit
              (subst (λ (b : List ℕ). HasEnded gives failures ended new.max_bytes s t b)
              (append_assoc x.page x.behind next.piece) (next.last less));
          wrong = wrong_with fault wrong next.piece (λ k lt. refl) (omega arith);
        }))

    pub page_refused : (fault : LogFault) → ((rest : List Page) →
        HasFaultBehind log.reader h.first (pages_of 0 x.count x.behind ++ p ∷ rest) fault) → n ≡ 4096 →
        IsJudged gives failures s t new fault
    page_refused fault wrong all =
        let a = next.long in
        record {
          done = (x.page ++ x.behind) ++ next.piece;
          at = next.whole all;
          wrong = λ more.
              let tail = new.buffer ++ more in
              let e = length-append next.piece tail in
              let same : x.page ++ (x.behind ++ (next.piece ++ tail)) ≡ (((x.page ++ x.behind) ++ next.piece) ++
              new.buffer) ++ more =
              sym (append_assoc ((x.page ++ x.behind) ++ next.piece) new.buffer more
              ∙ append_assoc (x.page ++ x.behind) next.piece tail
              ∙ append_assoc x.page x.behind (next.piece ++ tail)) in
              subst (λ (b : List ℕ). HasLogFault b fault) same
              (wrong_with fault wrong (next.piece ++ tail)
              (λ k lt. sym (get_or_append_left next.piece tail 0 k (omega arith))) (omega arith));
        }

  -- ---- the log

  pub log_read : (t : S) (file : LogFile) (log : LogScan) → HasReadAll gives failures ended max_bytes s t file.head log
      →
      file.blocks.items ≡ log.blocks.items → file.rest ≡ log.scan.used → ReadsLog gives failures ended max_bytes s t
      file
  log_read t file log x blocks rest =
      let c = x.come in
      let all = scanned_all file.head.first log.scan c.found c.made (pages_of 0
      (page_count x.behind) x.behind) c.taken in
      let bytes = x.page ++ x.behind in
      let here : pages_of 0 (page_count x.behind) x.behind ≡ pages_behind bytes =
      ap (λ (b : List ℕ). pages_of 0 (page_count b) b) (sym (behind_page x.page x.behind x.long)) in
      record {
        bytes = bytes;
        end = x.end;
        holds = record {
          long = whole_page x.page x.behind x.long;
          head = subst (λ (q : List ℕ). HasHead q file.head) (sym (first_page x.page x.behind x.long)) x.head;
          found = c.found;
          read = ap (read_pages file.head.first) (sym here) ∙ all.read;
          blocks = subst (λ (l : List Block). AreBlocks file.head.setup 1 c.found l) (sym blocks)
              (subst (λ (z : Setting). AreBlocks z 1 c.found log.blocks.items) x.setup c.blocks);
          rest_is = rest ∙ all.used ∙ ap (λ (l : List Page). used_pages (drop (length
              (log_pages file.head.first c.found)) l)) here;
        };
      }

-- The file of a log that was read, and what a settling makes of it.
use Rattle.std.proofs.Common.{◌≡◌, inl, inr, ⊎_elim, ℕ, ◌≤◌, List, [], ◌∷◌, ◌++◌, length, take, drop, map}
use Rattle.std.proofs.Common.{get_or, sym, ◌∙◌, ap, subst, length-append, arith}
use Rattle.std.specs.Prelude.{Result, Ok}
use Rattle.batch_store.specs.Batches.{Submission}
use Rattle.log_blocks.specs.Blocks.{Block}
use Rattle.log_blocks.specs.Files.{IsSame, recovered}
use Rattle.log_blocks.specs.declared.fault.LogFault.{LogFault}
use Rattle.log_disk.specs.Disk.{LeavesOnly}
use Rattle.log_disk.specs.declared.disk.LogDisk.{Ghosts as Device}
use Rattle.log_head.specs.Heads.{HasHead}
use Rattle.log_head.specs.declared.head.LogHead.{LogHead}
use Rattle.log_head.proofs.HeadLaws.{one_head}
use Rattle.log_batches.specs.Payloads.{block_of}
use Rattle.log_file.specs.Logs.{Log, HoldsLog, MayHoldNext, IsReadAs, with_blocks, with_next}
use Rattle.log_file.specs.Writer.{CanSettle, IsEnd, IsSettled}
use Rattle.log_file.specs.declared.writer.LogWriter.{LogWriter}
use Rattle.log_file.proofs.LogLemmas.{held_is_read, log_is_read, next_is_read, next_log}
use Rattle.log_start.specs.Found.{IsAsBefore, IsFound, ReadsAs}
use Rattle.log_start.specs.Records.{log_in}
use Rattle.log_start.specs.Starts.{GoesOn, MayGoOn, WasLeft}
use Rattle.log_start.specs.declared.read.FoundLog.{FoundLog}

same_blocks : (r : Result (List Block) LogFault) (xs ys : List Block) → r ≡ Ok xs → r ≡ Ok ys → xs ≡ ys
same_blocks r xs ys a b = let h = sym a ∙ b in cc h

module _ {D : Type 0} (d : Device D) (disk : D) (l : Log) (block : Block) (was : WasLeft d disk l block) where
  held : MayHoldNext l block (d.written disk)
  held = let u = was.unsettled in u.file

  -- its first page is the log's head
  head_is : take 4096 (d.written disk) ≡ l.head
  head_is = ⊎_elim (λ bare. bare.head) (λ more. more.head)
      (held_is_read l block (d.written disk) was.is_log was.block_is held)

  pub first_is : (head : LogHead) (lists : List (List Submission)) → ReadsAs (d.written disk) head lists →
      l.first ≡ head.first
  first_is head lists read =
      was.first_is
      ∙ ap (λ (h : LogHead). h.first) (one_head l.head was.head head was.has_head
      (subst (λ (p : List ℕ). HasHead p head) head_is read.has_head))

  blocks_are : (head : LogHead) (lists : List (List Submission)) → ReadsAs (d.written disk) head lists →
      recovered l.first (drop 4096 (d.written disk)) ≡ Ok (map block_of lists)
  blocks_are head lists read =
      ap (λ (n : ℕ). recovered n (drop 4096 (d.written disk))) (first_is head lists read) ∙ read.read

  -- ---- what a settling asks

  pub can_settle : (log : FoundLog) → IsFound (d.written disk) log →
      CanSettle d.written d.may_leave disk log.head.first log.end l block
  can_settle log found = record {
    unsettled = was.unsettled;
    is_log = was.is_log;
    block_is = was.block_is;
    places = was.places;
    first_is = sym (first_is log.head found.lists found.read);
    end_is = λ blocks read.
        subst (λ (n : ℕ). IsEnd n blocks log.end) (sym (first_is log.head found.lists found.read))
        (subst (λ (b : List Block). IsEnd log.head.first b log.end)
        (same_blocks (recovered l.first (drop 4096 (d.written disk))) (map block_of found.lists) blocks
        (blocks_are log.head found.lists found.read) read) found.end);
  }

  -- ---- what it makes

  pub settled_as : (new : D) (writer : LogWriter) →
      ((found : List Block) → recovered l.first (drop 4096 (d.written disk)) ≡ Ok found →
      IsSettled d.written d.may_leave new writer (with_blocks l found)) →
      (head : LogHead) (lists : List (List Submission)) → ReadsAs (d.written disk) head lists →
      IsSettled d.written d.may_leave new writer (log_in (take 4096 (d.written disk)) head.first lists)
  settled_as new writer settled head lists read =
      let one = settled (map block_of lists) (blocks_are head lists read) in
      let same : with_blocks l (map block_of lists) ≡ log_in (take 4096 (d.written disk)) head.first lists = λ i.
      record { head = (sym head_is) i; first = (first_is head lists read) i; blocks = map block_of lists } in
      subst (IsSettled d.written d.may_leave new writer) same one

  pub left_log : (left : List ℕ) → d.may_leave disk left → MayHoldNext l block left
  left_log left may = let u = was.unsettled in u.left left may

  next_held : (file other : List ℕ) → 4096 ≤ length other → IsSame other file → HoldsLog (with_next l block) file →
      HoldsLog (with_next l block) other
  next_held file other long same holds = record { long = long; same = λ i. same i ∙ holds.same i }

  next_read : (file : List ℕ) → HoldsLog (with_next l block) file →
      recovered l.first (drop 4096 file) ≡ Ok (l.blocks ++ block ∷ [])
  next_read file holds =
      let r = log_is_read (with_next l block) file (next_log l block was.is_log was.block_is was.places) holds in
      r.blocks

  one_more : (blocks : List Block) → blocks ≡ blocks ++ block ∷ [] → ⊥
  one_more blocks same =
      omega (arith, ap (λ (b : List Block). length b) same, length-append blocks (block ∷ []))

  -- where all that is read is durable, that is what is left
  pub left_same : (found : List Block) → recovered l.first (drop 4096 (d.written disk)) ≡ Ok found →
      (left : List ℕ) → d.may_leave disk left → IsSame left (d.written disk) → IsReadAs (with_blocks l found) left
  left_same found read left may same =
      let u = was.unsettled in
      let there = u.left left may in
      let here = held in
      elim (next_is_read l block (d.written disk) was.is_log was.block_is held) [
        | inl bare ↦ elim (next_is_read l block left was.is_log was.block_is there) [
          | inl r ↦ record {
            long = r.long;
            head = r.head;
            blocks = r.blocks ∙ ap Ok (same_blocks (recovered l.first (drop 4096 (d.written disk))) l.blocks found
                bare.blocks read);
          }
          | inr all ↦ absurd (one_more l.blocks (same_blocks (recovered l.first (drop 4096 (d.written disk))) l.blocks
              (l.blocks ++ block ∷ []) bare.blocks
              (next_read (d.written disk) (next_held left (d.written disk) here.long (λ i. sym (same i)) all.0))))
        ]
        | inr all ↦ (
            let holds = next_held (d.written disk) left there.long same all.0 in
            let r = log_is_read (with_next l block) left (next_log l block was.is_log was.block_is was.places) holds in
            record {
              long = r.long;
              head = r.head;
              blocks = r.blocks ∙ ap Ok (same_blocks (recovered l.first (drop 4096 (d.written disk)))
                  (l.blocks ++ block ∷ []) found (next_read (d.written disk) all.0) read);
            })
      ]

-- ---- a file that was read before

module _ {D : Type 0} (d : Device D) (old mid : D) (l : Log) (block : Block) (kept : IsAsBefore d old mid)
    (only_now : (left : List ℕ) → d.left_since old (d.moment old) left → d.may_leave old left) where
  pub was_left : WasLeft d old l block → WasLeft d mid l block
  was_left was = record {
    unsettled = let u = was.unsettled in record {
      file = subst (MayHoldNext l block) (sym kept.same) u.file;
      left = λ left may. u.left left (kept.fewer left may);
    };
    is_log = was.is_log;
    block_is = was.block_is;
    places = was.places;
    head = was.head;
    has_head = was.has_head;
    first_is = was.first_is;
  }

  -- from before the reading on
  leaves_from : (P : List ℕ → Type 0) (new : D) → ((left : List ℕ) → d.may_leave old left → P left) →
      LeavesOnly d.moment d.left_since mid new P → LeavesOnly d.moment d.left_since old new P
  leaves_from P new begins goes = record {
    later = omega (arith, kept.time.later, goes.later);
    each = λ left since.
        ⊎_elim
        (λ middle. ⊎_elim (λ past. begins left (only_now left past)) (λ now. begins left now)
        (kept.time.nothing_else (d.moment old) left (omega arith) middle))
        (λ p. p)
        (goes.before (d.moment old) left (omega (arith, kept.time.later)) since);
    before = λ t left le since.
        ⊎_elim
        (λ middle. ⊎_elim (λ past. inl past) (λ now. inr (begins left now)) (kept.time.nothing_else t left le middle))
        (λ p. inr p)
        (goes.before t left (omega (arith, le, kept.time.later)) since);
  }

  pub goes_from : (new : D) → WasLeft d old l block → GoesOn d mid new l block → GoesOn d old new l block
  goes_from new was goes = record {
    any_moment = leaves_from (MayHoldNext l block) new (left_log d old l block was) goes.any_moment;
    same_list = λ found read durable.
        leaves_from (IsReadAs (with_blocks l found)) new
        (λ left may. left_same d old l block was found read left may
        (durable left may))
        (goes.same_list found
        (ap (λ (file : List ℕ). recovered l.first (drop 4096 file)) kept.same ∙ read)
        (λ left may i. durable left (kept.fewer left may) i
        ∙ ap (λ (file : List ℕ). get_or file i 0) (sym kept.same)));
  }

-- ---- the log that was read of it

module _ {D : Type 0} (d : Device D) (old mid : D) (l : Log) (block : Block) (kept : IsAsBefore d old mid)
    (only_now : (left : List ℕ) → d.left_since old (d.moment old) left → d.may_leave old left)
    (log : FoundLog) (bytes : List ℕ) (found : IsFound bytes log) (are : bytes ≡ d.written old)
    (may : MayGoOn d old l block) where
  was : WasLeft d old l block
  was = may log.head found.lists (subst (λ (b : List ℕ). ReadsAs b log.head found.lists) are found.read)

  now_are : bytes ≡ d.written mid
  now_are = are ∙ sym kept.same

  pub found_again : IsFound (d.written mid) log × WasLeft d mid l block
  found_again = (
    subst (λ (b : List ℕ). IsFound b log) now_are found,
    was_left d old mid l block kept only_now was,
  )

  pub settled_again : (new : D) (writer : LogWriter) →
      ((head : LogHead) (lists : List (List Submission)) → ReadsAs (d.written mid) head lists →
      IsSettled d.written d.may_leave new writer (log_in (take 4096 (d.written mid)) head.first lists)) →
      IsSettled d.written d.may_leave new writer (log_in (take 4096 bytes) log.head.first found.lists)
  settled_again new writer settled =
      subst
      (λ (b : List ℕ). IsSettled d.written d.may_leave new writer (log_in (take 4096 b) log.head.first found.lists))
      (sym now_are)
      (settled log.head found.lists (subst (λ (b : List ℕ). ReadsAs b log.head found.lists) now_are found.read))

  pub goes_again : (new : D) → GoesOn d mid new l block → GoesOn d old new l block
  goes_again new goes = goes_from d old mid l block kept only_now new was goes

  -- where the settling failed
  pub fails_again : (new : D) → LeavesOnly d.moment d.left_since mid new (MayHoldNext l block) →
      LeavesOnly d.moment d.left_since old new (MayHoldNext l block)
  fails_again new goes =
      leaves_from d old mid l block kept only_now (MayHoldNext l block) new
      (left_log d old l block was) goes

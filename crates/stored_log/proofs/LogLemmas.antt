-- A log that is settled is what its file is read as, and one block more.
use Rattle.std.proofs.Common.{◌≡◌, ℕ, ◌+◌, ◌-◌, ◌*◌, ◌^◌, ◌<◌, ◌≤◌, List, [], ◌∷◌, ◌++◌, length, take, drop, sym, ap, subst, ◌∙◌, append_assoc, arith, inl, inr, Bool, true, false}
use Rattle.std.specs.Prelude.{Option, Some, IfSome, Result, Ok, Err, OnOk, OnErr, nat_le, if◌then◌else◌}
use Rattle.std.specs.Arc.{arc_value}
use Rattle.std.specs.declared.sync.Arc.{Arc}
use Rattle.std.proofs.lemmas.Bool.{cases_Bool}
use Rattle.std.proofs.lemmas.Bool.Decides.{nat_tests}
use Rattle.std.proofs.lemmas.List.{map-append, append-nil, length-map}
use Rattle.std.proofs.lemmas.List.Concat.{flat_map-append}
use Rattle.batch_store.specs.declared.verdict.Entry.{Entry}
use Rattle.batch_store.specs.Batches.{Submission, entry_of, entries_of, values}
use Rattle.log_blocks.specs.Blocks.{Block, IsBlock, batches_in, block_pages, can_have, is_sound, place_behind}
use Rattle.log_blocks.specs.Files.{recovered, next_bytes, joined as joined_pages}
use Rattle.log_blocks.specs.declared.fault.LogFault.{LogFault}
use Rattle.log_batches.specs.Payloads.{block_of}
use Rattle.log_batches.proofs.Chunks.{is_block}
use Rattle.log_file.specs.Logs.{Log, IsReadAs, with_next}
use Rattle.log_file.specs.Writer.{IsSettled}
use Rattle.log_file.specs.declared.writer.LogWriter.{LogWriter}
use Rattle.log_file.proofs.LogLemmas.{log_is_read}
use Rattle.open_log.specs.declared.log.OpenLog.{OpenLog}
use Rattle.log_start.specs.Records.{IsLogOf, joined}
use Rattle.stored_log.specs.Kept.{IsLogged, Stored, blocks_read, is_failed, log_in, room_of, stored}

log_read : (log : Log) (file : List ℕ) → IsReadAs log file → log_in file log.first ≡ log
log_read log file read =
    ap (λ (h : List ℕ). log_of h (recovered log.first (drop 4096 file))) read.head
    ∙ ap (λ (r : Result (List Block) LogFault). log_of log.head r) read.blocks
  where
    log_of : List ℕ → Result (List Block) LogFault → Log
    log_of head blocks = record { head = head; first = log.first; blocks = blocks_read blocks }

module _ {D : Type 0} (written : D → List ℕ) (may_leave : D → List ℕ → Type 0) (disk : D) (writer : LogWriter) where
  pub settled_in : (log : Log) → IsSettled written may_leave disk writer log → log_in (written disk) writer.first ≡ log
  settled_in log settled =
      ap (λ (n : ℕ). log_in (written disk) n) settled.first
      ∙ log_read log (written disk) (log_is_read log (written disk) settled.is_log settled.file)

  -- what a call asks of the log that the file has
  pub settled_now : (telling : Type 0) (tells : D → Type 0) (es : List Entry) →
      IsLogged telling tells written may_leave disk writer es → telling →
      tells disk × IsSettled written may_leave disk writer (log_in (written disk) writer.first)
  settled_now telling tells es logged t = (
    (logged.settled t).0,
    subst (λ (l : Log). IsSettled written may_leave disk writer l)
        (sym (settled_in logged.log (logged.settled t).1)) (logged.settled t).1,
  )

joined_next : (lists : List (List Submission)) (list : List Submission) →
    joined (lists ++ list ∷ []) ≡ joined lists ++ list
joined_next lists list =
    flat_map-append (λ (l : List Submission). l) lists (list ∷ [])
    ∙ ap (λ (l : List Submission). joined lists ++ l) (append-nil list)

lists_next : (log : Log) (es : List Entry) (list : List Submission) → IsLogOf log es →
    IsLogOf (with_next log (block_of list)) (es ++ entries_of list)
lists_next log es list of = record {
  head = of.head;
  before = of.before;
  lists = of.lists ++ list ∷ [];
  has_head = of.has_head;
  first_is = of.first_is;
  before_is = of.before_is;
  total_is = of.total_is;
  link_is = of.link_is;
  blocks_are = ap (λ (bs : List Block). bs ++ block_of list ∷ []) of.blocks_are
      ∙ sym (map-append block_of of.lists (list ∷ []));
  entries_are = ap (λ (l : List Entry). l ++ entries_of list) of.entries_are
      ∙ append_assoc of.before (entries_of (joined of.lists)) (entries_of list)
      ∙ ap (λ (l : List Entry). of.before ++ l) (sym (map-append entry_of (joined of.lists) list))
      ∙ ap (λ (l : List Submission). of.before ++ entries_of l) (sym (joined_next of.lists list));
}

-- the log with the block of a list more, on the disk and by the writer that the append left
pub logged_next : {D : Type 0} (telling : Type 0) (tells : D → Type 0) (written : D → List ℕ) (may_leave : D → List ℕ → Type 0)
    (disk : D) (writer : LogWriter) (es : List Entry) (list : List Submission) (now : D) (behind : LogWriter) →
    IsLogged telling tells written may_leave disk writer es →
    (telling → tells now ×
    IsSettled written may_leave now behind (with_next (log_in (written disk) writer.first) (block_of list))) →
    IsLogged telling tells written may_leave now behind (es ++ entries_of list)
logged_next telling tells written may_leave disk writer es list now behind logged next = record {
  log = with_next logged.log (block_of list);
  settled = λ t. (
    (next t).0,
    subst (λ (l : Log). IsSettled written may_leave now behind (with_next l (block_of list)))
        (settled_in written may_leave disk writer logged.log (logged.settled t).1) (next t).1,
  );
  lists = lists_next logged.log es list logged.lists;
}

-- the same log, on the disk and by the writer that a stretch of zeros left
pub logged_still : {D : Type 0} (telling : Type 0) (tells : D → Type 0) (written : D → List ℕ) (may_leave : D → List ℕ → Type 0)
    (disk : D) (writer : LogWriter) (es : List Entry) (now : D) (behind : LogWriter) →
    IsLogged telling tells written may_leave disk writer es →
    (telling → tells now × IsSettled written may_leave now behind (log_in (written disk) writer.first)) →
    IsLogged telling tells written may_leave now behind es
logged_still telling tells written may_leave disk writer es now behind logged still = record {
  log = logged.log;
  settled = λ t. (
    (still t).0,
    subst (λ (l : Log). IsSettled written may_leave now behind l)
        (settled_in written may_leave disk writer logged.log (logged.settled t).1) (still t).1,
  );
  lists = logged.lists;
}

-- ---- sizes

fits : (batches pages : ℕ) → can_have batches pages ≡ true → 8 + 24 * batches ≤ 4072 * pages
fits batches pages h = grind (arith, nat_tests)

-- a block has at most 170 batches for each of its pages
pub batches_fit : (list : List Submission) → IsBlock (block_of list) → batches_in (block_of list) ≡ length list →
    length list ≤ 170 * length (block_of list)
unfolding is_sound
batches_fit list is count =
    let most = fits (batches_in (block_of list)) (length (block_of list)) is.sound in
    omega (arith, most, count)

pub length_values : {Z : Type 0} (batches : List (Arc Submission Z)) → length (values batches) ≡ length batches
length_values batches = length-map batches arc_value

-- the block of some batches, no longer than the buffer
pub block_is : {Z : Type 0} (batches : List (Arc Submission Z)) → 0 < length batches → length batches < 2 ^ 64 →
    length (block_of (values batches)) ≤ 6187 →
    IsBlock (block_of (values batches)) × (batches_in (block_of (values batches)) ≡ length batches)
block_is batches some few short =
    let len = length-map batches arc_value in
    let is = is_block (values batches) (omega (arith, len)) (omega (arith, len)) (omega (arith, short)) in
    (is.0, is.1 ∙ len)

-- the bytes of a block are those of the next one of a log
pub bytes_next : (log : Log) (place next n : ℕ) (block made : Block) (buffer bytes : List ℕ) → bytes ≡ buffer →
    take n buffer ≡ joined_pages (block_pages place made) → place ≡ next → next ≡ place_behind log.first log.blocks →
    block ≡ made → take n bytes ≡ next_bytes log.first log.blocks block
bytes_next log place next n block made buffer bytes same spelled place_is next_is block_is =
    ap (λ (l : List ℕ). take n l) same ∙ spelled
    ∙ ap (λ (p : ℕ). joined_pages (block_pages p made)) (place_is ∙ next_is)
    ∙ ap (λ (b : Block). joined_pages (block_pages (place_behind log.first log.blocks) b)) (sym block_is)

-- the place and the page stay in proportion
pub places_after : {T E : Type 0} (result : Result T E) (old new : LogWriter) (pages batches : ℕ) →
    OnOk result ((new.first ≡ old.first) × (new.next ≡ old.next + batches) × (new.page ≡ old.page + pages)) →
    OnErr result (new ≡ old) → old.next ≤ 2 ^ 62 + 170 * old.page → batches ≤ 170 * pages →
    new.next ≤ 2 ^ 62 + 170 * new.page
places_after (Ok x) old new pages batches ok err le fit = omega (arith, ok.1, ok.2, le, fit)
places_after (Err e) old new pages batches ok err le fit =
    subst (λ (w : LogWriter). w.next ≤ 2 ^ 62 + 170 * w.page) (sym err) le

pub taken_small : (pages room : ℕ) → (if nat_le pages 6187 then pages else 2 ^ 64 - 1) ≤ room → room ≤ 268435456 →
    (pages ≤ 6187) × (pages ≤ room)
taken_small pages room le most = elim (cases_Bool (nat_le pages 6187)) [
  | inl low ↦
      let few : pages ≤ 6187 = grind (arith, nat_tests) in
      (few, subst (λ (b : Bool). (if b then pages else 2 ^ 64 - 1) ≤ room) low le)
  | inr high ↦
      let much : 2 ^ 64 - 1 ≤ room = subst (λ (b : Bool). (if b then pages else 2 ^ 64 - 1) ≤ room) high le in
      absurd (omega (arith, much, most))
]

-- a block takes of the room just what is told of it
pub room_behind : {T E : Type 0} (result : Result T E) (old new : LogWriter) (made pages : ℕ) →
    OnOk result (new.room ≡ old.room - made) → made ≡ pages → pages ≤ 6187 → pages ≤ old.room →
    OnOk result (old.room ≡ new.room + (if nat_le pages 6187 then pages else 2 ^ 64 - 1))
room_behind (Ok x) old new made pages left is few within = elim (cases_Bool (nat_le pages 6187)) [
  | inl low ↦
      let just : old.room ≡ new.room + pages = omega (arith, left, is, within) in
      subst (λ (b : Bool). old.room ≡ new.room + (if b then pages else 2 ^ 64 - 1)) (sym low) just
  | inr high ↦
      let much : 6187 < pages = grind (arith, nat_tests) in
      absurd (omega (arith, much, few))
]
room_behind (Err e) old new made pages left is few within = tt

-- ---- a log that is seen

module _ {D : Type 0} (entries : List Entry) (inside : Option (OpenLog D)) (named : Bool) (seen : Stored D)
    (log : OpenLog D) (view : stored entries inside named ≡ seen) (is : inside ≡ Some log) where
  pub seen_in_use : seen.in_use ≡ Some log
  seen_in_use = sym (ap (λ (s : Stored D). s.in_use) view) ∙ is

  pub works_now : (in_doubt : D → Bool) → is_failed in_doubt seen.in_use ≡ false → in_doubt log.file.disk ≡ false
  works_now in_doubt works = sym (ap (λ (o : Option (OpenLog D)). is_failed in_doubt o) seen_in_use) ∙ works

  pub room_now : (pages : ℕ) → pages ≤ room_of seen.in_use → pages ≤ log.writer.room
  room_now pages le = subst (λ (o : Option (OpenLog D)). pages ≤ room_of o) seen_in_use le

pub kept_now : {D : Type 0} (P : OpenLog D → Type 0) (inside : Option (OpenLog D)) (log : OpenLog D) →
    inside ≡ Some log → IfSome inside P → P log
kept_now {D} P inside log is kept = subst (λ (o : Option (OpenLog D)). IfSome o P) is kept

-- The file of a log as bytes, and what is read of it.
use Rattle.std.proofs.Common.{◌≡◌, ◌⊎◌, inl, inr, ⊎_elim, ℕ, ◌+◌, ◌-◌, ◌*◌, ◌^◌, ◌<◌, ◌≤◌, List, [], ◌∷◌, ◌++◌}
use Rattle.std.proofs.Common.{length, length-append, get_or, take, drop, refl, sym, ◌∙◌, ap, subst, arith}
use Rattle.std.proofs.Common.{append_assoc}
use Rattle.std.specs.Prelude.{Result, Ok, replicate}
use Rattle.std.specs.List.{AllByRecursion}
use Rattle.std.proofs.lemmas.Bool.{cases_lt}
use Rattle.std.proofs.lemmas.List.{get_or-append-add, get_or_append_left, get_or_past, get_or-take, get_or-drop}
use Rattle.std.proofs.lemmas.List.{length-take-le, ext_get_or, get_or-replicate, length-replicate}
use Rattle.log_blocks.specs.Blocks.{Block, IsBlock, batches_in, block_pages, log_pages, place_behind}
use Rattle.log_blocks.specs.Files.{IsSame, Mixed, MayHold, log_bytes, next_bytes, recovered}
use Rattle.log_blocks.specs.Scanning.{last_begin}
use Rattle.log_blocks.specs.declared.fault.LogFault.{LogFault}
use Rattle.log_blocks.proofs.Torn.{length-pages_from}
use Rattle.log_blocks.proofs.FilePages.{read_held, settled_read, log_push, log_end, next_end, page_total}
use Rattle.log_blocks.proofs.FilePages.{place_push, blocks_push, same_recovered}
use Rattle.log_disk.specs.Disk.{Holds, HoldsSome, MayBeCut}
use Rattle.log_file.specs.Logs.{Log, IsLog, HoldsLog, MayHoldNext, IsReadAs, IsBeforeOrAfter, with_blocks}
use Rattle.log_file.specs.Logs.{with_next, file_of}
use Rattle.log_file.specs.Writer.{Mixes}

-- ---- a file as a front and what stands behind it

module _ (front body : List ℕ) (n : ℕ) (long : length front ≡ n) where
  pub behind_front : (i : ℕ) → get_or (front ++ body) (n + i) 0 ≡ get_or body i 0
  behind_front i = ap (λ k. get_or (front ++ body) (k + i) 0) (sym long) ∙ get_or-append-add front body i 0

  pub drop_same : (file : List ℕ) → IsSame file (front ++ body) → IsSame (drop n file) body
  drop_same file same i = get_or-drop n file i 0 ∙ same (n + i) ∙ behind_front i

  pub drop_mixed : (file bytes : List ℕ) → Mixed (length (front ++ body)) bytes (front ++ body) file
      → Mixed (length body) bytes body (drop n file)
  drop_mixed file bytes mixed i =
      ⊎_elim
      (λ same. inl (get_or-drop n file i 0 ∙ same ∙ behind_front i))
      (λ other. inr (
        other.0,
        other.1,
        omega (arith, other.2, length-append front body),
        get_or-drop n file i 0
            ∙ other.3,
      ))
      (mixed (n + i))

  pub front_mixed : (file bytes : List ℕ) → Mixed (length (front ++ body)) bytes (front ++ body) file → (i : ℕ)
      → i < n → get_or file i 0 ≡ get_or front i 0
  front_mixed file bytes mixed i lt =
      ⊎_elim
      (λ same. same ∙ get_or_append_left front body 0 i (omega arith))
      (λ other. absurd (omega (arith, other.2, length-append front body)))
      (mixed i)

  pub take_front : (file : List ℕ) → n ≤ length file → ((i : ℕ) → i < n → get_or file i 0 ≡ get_or front i 0)
      → take n file ≡ front
  take_front file enough same =
      ext_get_or 0 (take n file) front (length-take-le n file enough ∙ sym long)
      (λ i lt. get_or-take n file i 0 (omega (arith, length-take-le n file enough))
      ∙ same i (omega (arith, length-take-le n file enough)))

  -- a file by its front and by what stands behind it
  pub whole_same : (file : List ℕ) → ((i : ℕ) → i < n → get_or file i 0 ≡ get_or front i 0)
      → IsSame (drop n file) body → IsSame file (front ++ body)
  whole_same file front_same body_same i =
      elim (cases_lt i n) [
        | inl before ↦ front_same i before ∙ sym (get_or_append_left front body 0 i (omega arith))
        | inr behind ↦
            let split : i ≡ n + (i - n) = omega arith in
            ap (λ k. get_or file k 0) split ∙ sym (get_or-drop n file (i - n) 0) ∙ body_same (i - n)
            ∙ sym (behind_front (i - n)) ∙ ap (λ k. get_or (front ++ body) k 0) (sym split)
      ]

-- ---- a log with one block more

pub file_push : (log : Log) (block : Block)
    → file_of (with_next log block) ≡ file_of log ++ next_bytes log.first log.blocks block
file_push log block =
    ap (λ (l : List ℕ). log.head ++ l) (log_push log.first log.blocks block)
    ∙ sym (append_assoc log.head (log_bytes log.first log.blocks) (next_bytes log.first log.blocks block))

pub file_long : (log : Log) → IsLog log → length (file_of log) ≡ 4096 * (1 + length (log_pages log.first log.blocks))
file_long log is = omega (
  arith,
  length-append log.head (log_bytes log.first log.blocks),
  is.head_long,
  log_end
      log.first log.blocks is.places is.each,
)

pub next_log : (log : Log) (block : Block) → IsLog log → IsBlock block
    → place_behind log.first log.blocks + batches_in block < 2 ^ 64 → IsLog (with_next log block)
next_log log block is is_block fits = record {
  head_long = is.head_long;
  each = blocks_push log.blocks block is.each is_block;
  places = omega (arith, fits, place_push log.first log.blocks block);
}

-- ---- what a file may hold

pub log_held : (log : Log) (block : Block) (file : List ℕ) → HoldsLog log file → MayHoldNext log block file
log_held log block file holds = record { long = holds.long; mixed = λ i. inl (holds.same i) }

-- a byte of the log with one block more
module _ (log : Log) (block : Block) where
  pub byte_before : (i : ℕ) → i < length (file_of log)
      → get_or (file_of (with_next log block)) i 0 ≡ get_or (file_of log) i 0
  byte_before i lt = ap (λ (l : List ℕ). get_or l i 0) (file_push log block)
      ∙ get_or_append_left (file_of log) (next_bytes log.first log.blocks block) 0 i lt

  pub byte_inside : (j : ℕ) → get_or (file_of (with_next log block)) (length (file_of log) + j) 0 ≡ get_or
      (next_bytes log.first log.blocks block) j 0
  byte_inside j =
      ap (λ (l : List ℕ). get_or l (length (file_of log) + j) 0) (file_push log block)
      ∙ get_or-append-add (file_of log) (next_bytes log.first log.blocks block) j 0

  pub byte_behind : (i : ℕ) → length (file_of log) + length (next_bytes log.first log.blocks block) ≤ i
      → get_or (file_of (with_next log block)) i 0 ≡ 0
  byte_behind i le =
      ap (λ (l : List ℕ). get_or l i 0) (file_push log block)
      ∙ get_or_past (file_of log ++ next_bytes log.first log.blocks block) i 0
      (omega (arith, length-append (file_of log) (next_bytes log.first log.blocks block)))

  pub next_held : (file : List ℕ) → HoldsLog (with_next log block) file → MayHoldNext log block file
  next_held file holds = record {
    long = holds.long;
    mixed = λ i.
        elim (cases_lt i (length (file_of log))) [
          | inl before ↦ inl (holds.same i ∙ byte_before i before)
          | inr from ↦
              elim (cases_lt i (length (file_of log) + length (next_bytes log.first log.blocks block))) [
                | inl inside ↦
                    let j = i - length (file_of log) in
                    let split : i ≡ length (file_of log) + j = omega arith in
                    inr (
                      j,
                      omega arith,
                      split,
                      holds.same i
                          ∙ ap (λ k. get_or (file_of (with_next log block)) k 0) split ∙ byte_inside j,
                    )
                | inr behind ↦ inl (holds.same i ∙ byte_behind i behind ∙ sym (get_or_past (file_of log) i 0 from))
              ]
        ];
  }

  -- some bytes of the block, written behind the log
  pub part_held : (at : ℕ) (bytes x y : List ℕ) → at ≡ length (file_of log)
      → bytes ≡ next_bytes log.first log.blocks block → MayHoldNext log block x → HoldsSome at bytes x y
      → MayHoldNext log block y
  part_held at bytes x y here are held some = record {
    long = omega (arith, held.long, some.longer);
    mixed = λ i.
        ⊎_elim
        (λ same. ⊎_elim (λ kept. inl (same ∙ kept)) (λ other. inr (other.0, other.1, other.2, same ∙ other.3))
        (held.mixed i))
        (λ other. inr (
          other.0,
          omega (arith, other.1, ap length are),
          omega (arith, other.2),
          other.3
              ∙ ap (λ (l : List ℕ). get_or l other.0 0) are,
        ))
        (some.mixed i);
  }

  -- all of them
  pub all_held : (at : ℕ) (bytes x y : List ℕ) → at ≡ length (file_of log)
      → bytes ≡ next_bytes log.first log.blocks block → HoldsLog log x → Holds at bytes x y
      → HoldsLog (with_next log block) y
  all_held at bytes x y here are was holds = record {
    long = omega (arith, was.long, holds.longer);
    same = λ i.
        elim (cases_lt i (length (file_of log))) [
          | inl before ↦ holds.before i (omega arith) ∙ was.same i ∙ sym (byte_before i before)
          | inr from ↦
              elim (cases_lt i (length (file_of log) + length (next_bytes log.first log.blocks block))) [
                | inl inside ↦
                    let j = i - length (file_of log) in
                    let split : i ≡ at + j = omega arith in
                    let split' : i ≡ length (file_of log) + j = omega arith in
                    ap (λ k. get_or y k 0) split ∙ holds.inside j (omega (arith, ap length are))
                    ∙ ap (λ (l : List ℕ). get_or l j 0) are ∙ sym (byte_inside j)
                    ∙ ap (λ k. get_or (file_of (with_next log block)) k 0) (sym split')
                | inr behind ↦ holds.behind i (omega (arith, ap length are)) ∙ was.same i
                    ∙ get_or_past (file_of log) i 0 from ∙ sym (byte_behind i behind)
              ]
        ];
  }

  -- what a sync that brings them leaves
  pub all_left : (at : ℕ) (bytes now left : List ℕ) → at ≡ length (file_of log)
      → bytes ≡ next_bytes log.first log.blocks block → HoldsLog (with_next log block) now → MayHoldNext log block left
      → ((j : ℕ) → j < length bytes → get_or left (at + j) 0 ≡ get_or now (at + j) 0)
      → HoldsLog (with_next log block) left
  all_left at bytes now left here are all held brought = record {
    long = held.long;
    same = λ i.
        elim (cases_lt i (length (file_of log))) [
          | inl before ↦ ⊎_elim (λ kept. kept ∙ sym (byte_before i before)) (λ other. absurd (omega (arith, other.2)))
              (held.mixed i)
          | inr from ↦
              elim (cases_lt i (length (file_of log) + length (next_bytes log.first log.blocks block))) [
                | inl inside ↦
                    let j = i - length (file_of log) in
                    let split : i ≡ at + j = omega arith in
                    ap (λ k. get_or left k 0) split ∙ brought j (omega (arith, ap length are))
                    ∙ ap (λ k. get_or now k 0) (sym split) ∙ all.same i
                | inr behind ↦
                    ⊎_elim
                    (λ kept. kept ∙ get_or_past (file_of log) i 0 from ∙ sym (byte_behind i behind))
                    (λ other. absurd (omega (arith, other.1, other.2)))
                    (held.mixed i)
              ]
        ];
  }

-- the same byte, as often as one likes
pub replicated : (n j b : ℕ) → get_or (replicate n b) j b ≡ b
replicated n j b = elim (cases_lt j n) [
  | inl within ↦ get_or-replicate n j b b within
  | inr past ↦ get_or_past
      (replicate n b) j b (omega (arith, length-replicate n b))
]

-- zeros, written behind the log
pub zeros_held : (log : Log) (at : ℕ) (zeros x y : List ℕ) → length (file_of log) ≤ at
    → ((j : ℕ) → get_or zeros j 0 ≡ 0) → HoldsLog log x → HoldsSome at zeros x y → HoldsLog log y
zeros_held log at zeros x y behind are held some = record {
  long = omega (arith, held.long, some.longer);
  same = λ i.
      ⊎_elim
      (λ same. same ∙ held.same i)
      (λ other. other.3 ∙ are other.0 ∙ sym (get_or_past (file_of log) i 0 (omega (arith, other.2))))
      (some.mixed i);
}

pub cut_held : (log : Log) (len : ℕ) (x y : List ℕ) → length (file_of log) ≤ len → 4096 ≤ len → HoldsLog log x
    → MayBeCut len x y → HoldsLog log y
cut_held log len x y behind some held cut = record {
  long = ⊎_elim (λ a. omega (arith, held.long)) (λ b. omega arith) cut.longer;
  same = λ i.
      ⊎_elim
      (λ same. same ∙ held.same i)
      (λ gone. gone.1 ∙ sym (get_or_past (file_of log) i 0 (omega (arith, gone.0))))
      (cut.bytes i);
}

-- ---- what is read

pub log_is_read : (log : Log) (file : List ℕ) → IsLog log → HoldsLog log file → IsReadAs log file
log_is_read log file is holds = record {
  long = holds.long;
  head = take_front log.head (log_bytes log.first log.blocks) 4096 is.head_long file holds.long
      (λ i lt. holds.same i ∙ get_or_append_left log.head (log_bytes log.first log.blocks) 0 i
      (omega (arith, is.head_long)));
  blocks = settled_read log.first log.blocks (drop 4096 file) is.places is.each
      (drop_same log.head (log_bytes log.first log.blocks) 4096 is.head_long file holds.same);
}

-- the log alone, or all bytes of the log and the block
pub next_is_read : (log : Log) (block : Block) (file : List ℕ) → IsLog log → IsBlock block
    → MayHoldNext log block file → IsReadAs log file
    ⊎ (HoldsLog (with_next log block) file × IsReadAs (with_next log block) file)
next_is_read log block file is is_block held =
    let body = log_bytes log.first log.blocks in
    let next = next_bytes log.first log.blocks block in
    let head_is = front_mixed log.head body 4096 is.head_long file next held.mixed in
    let front : take 4096 file ≡ log.head = take_front log.head body 4096 is.head_long file held.long head_is in
    ⊎_elim
    (λ without. inl (record { long = held.long; head = front; blocks = without }))
    (λ all.
    let same : IsSame file (log.head ++ (body ++ next)) = whole_same log.head (body ++ next) 4096 is.head_long file
    head_is all.0 in
    let bytes : log.head ++ (body ++ next) ≡ file_of (with_next log block) = ap (λ (l : List ℕ). log.head ++ l)
    (sym (log_push log.first log.blocks block)) in
    inr (
      record { long = held.long; same = λ i. same i ∙ ap (λ (l : List ℕ). get_or l i 0) bytes },
      record { long = held.long; head = front; blocks = all.1 },
    ))
    (read_held log.first log.blocks block is.places is.each is_block (drop 4096 file)
    (drop_mixed log.head body 4096 is.head_long file next held.mixed))

pub held_is_read : (log : Log) (block : Block) (file : List ℕ) → IsLog log → IsBlock block
    → MayHoldNext log block file → IsBeforeOrAfter log block file
held_is_read log block file is is_block held =
    ⊎_elim (λ without. inl without) (λ all. inr all.1) (next_is_read log block file is is_block held)

-- ---- where the last block begins

pub last_page : (first page last : ℕ) (blocks : List Block) → last ≤ page
    → last_begin page last blocks ≤ page + length (log_pages first blocks)
last_page first page last [] le = omega arith
last_page first page last (block ∷ blocks) le =
    omega (
      arith,
      last_page (first + batches_in block) (page + length block) page blocks (omega arith),
      length-append (block_pages first block) (log_pages (first + batches_in block) blocks),
      length-pages_from first 0 (length block) block,
    )

pub last_push : (first page last : ℕ) (blocks : List Block) (block : Block)
    → last_begin page last (blocks ++ block ∷ []) ≡ page + length (log_pages first blocks)
last_push first page last [] block = omega arith
last_push first page last (b ∷ blocks) block =
    omega (
      arith,
      last_push (first + batches_in b) (page + length b) page blocks block,
      length-append (block_pages first b) (log_pages (first + batches_in b) blocks),
      length-pages_from first 0 (length b) b,
    )

-- What a cut behind the blocks that were read, the last of them written again, and a sync make of a file.
use Rattle.std.proofs.Common.{◌≡◌, ◌⊎◌, inl, inr, ⊎_elim, ℕ, ◌+◌, ◌*◌, ◌^◌, ◌<◌, ◌≤◌, List, [], ◌∷◌, ◌++◌, length}
use Rattle.std.proofs.Common.{length-append, get_or, drop, refl, sym, ◌∙◌, ap, subst, arith}
use Rattle.std.specs.Prelude.{Result, Ok}
use Rattle.std.proofs.lemmas.Bool.{cases_lt}
use Rattle.std.proofs.lemmas.List.{get_or_past, length_push}
use Rattle.log_blocks.specs.Blocks.{Block, IsBlock, batches_in, log_pages, place_behind}
use Rattle.log_blocks.specs.Files.{IsSame, next_bytes, recovered}
use Rattle.log_blocks.specs.Scanning.{last_begin}
use Rattle.log_blocks.specs.declared.fault.LogFault.{LogFault}
use Rattle.log_disk.specs.Disk.{IsCut, MayBeCut}
use Rattle.log_file.specs.Logs.{Log, IsLog, HoldsLog, MayHoldNext, IsReadAs, with_blocks, with_next, file_of}
use Rattle.log_file.specs.Writer.{Mixes}
use Rattle.log_file.proofs.LogLemmas.{file_push, file_long, next_log, log_held, next_held, byte_before, byte_inside}
use Rattle.log_file.proofs.LogLemmas.{log_is_read, next_is_read, last_page, last_push}

-- what is known of the blocks that were read of a file
pub record Found (log : Log) (block : Block) (file : List ℕ) (found : List Block) : Type 0 where
  pub is_log : IsLog (with_blocks log found)
  pub same : (i : ℕ) → i < length (file_of (with_blocks log found))
      → get_or file i 0 ≡ get_or (file_of (with_blocks log found)) i 0
  pub longer : length (file_of log) ≤ length (file_of (with_blocks log found))
  pub front : (i : ℕ) → i < length (file_of log)
      → get_or (file_of (with_blocks log found)) i 0 ≡ get_or (file_of log) i 0
  pub last : 4096 * last_begin 1 0 found ≤ length (file_of log)
  pub held : (left : List ℕ) → HoldsLog (with_blocks log found) left → MayHoldNext log block left
  pub which : (found ≡ log.blocks) ⊎ ((found ≡ log.blocks ++ block ∷ []) × HoldsLog (with_blocks log found) file)

pub same_found : (r : Result (List Block) LogFault) (a b : List Block) → r ≡ Ok a → r ≡ Ok b → a ≡ b
same_found r a b is other = cc

-- x is the file, of which bytes from this one on may be gone
abbrev pub GoneFrom : ℕ → List ℕ → List ℕ → Type 0
GoneFrom len file x = (i : ℕ) → (get_or x i 0 ≡ get_or file i 0) ⊎ ((len ≤ i) × (get_or x i 0 ≡ 0))

module _ (log : Log) (block : Block) (is : IsLog log) (is_block : IsBlock block)
    (fits : place_behind log.first log.blocks + batches_in block < 2 ^ 64) (file : List ℕ)
    (held : MayHoldNext log block file) where
  found_without : Found log block file log.blocks
  found_without = record {
    is_log = record { head_long = is.head_long; each = is.each; places = is.places };
    same = λ i lt. ⊎_elim (λ kept. kept) (λ other. absurd (omega (arith, other.2))) (held.mixed i);
    longer = omega arith;
    front = λ i lt. refl;
    last = omega (arith, file_long log is, last_page log.first 1 0 log.blocks (omega arith));
    held = λ left h. log_held log block left (record { long = h.long; same = h.same });
    which = inl refl;
  }

  found_with : HoldsLog (with_next log block) file → Found log block file (log.blocks ++ block ∷ [])
  found_with all = record {
    is_log = next_log log block is is_block fits;
    same = λ i lt. all.same i;
    longer = omega (
      arith,
      ap length (file_push log block),
      length-append (file_of log)
          (next_bytes log.first log.blocks block),
    );
    front = λ i lt. byte_before log block i lt;
    last = omega (arith, file_long log is, last_push log.first 1 0 log.blocks block);
    held = λ left h. next_held log block left h;
    which = inr (refl, all);
  }

  -- the blocks that were read, whichever they are
  pub blocks_found : (found : List Block) × (recovered log.first (drop 4096 file) ≡ Ok found)
  blocks_found =
      elim (next_is_read log block file is is_block held)
      [ inl r ↦ (log.blocks, r.blocks) | inr all ↦ let r = all.1 in (log.blocks ++ block ∷ [], r.blocks) ]

  pub found_of : (found : List Block) → recovered log.first (drop 4096 file) ≡ Ok found → Found log block file found
  found_of found read =
      elim (next_is_read log block file is is_block held) [
        | inl r ↦ subst (Found log block file) (same_found (recovered log.first (drop 4096 file)) log.blocks found
            r.blocks read) found_without
        | inr all ↦
            let r = all.1 in
            subst (Found log block file) (same_found (recovered log.first (drop 4096 file)) (log.blocks ++ block ∷ [])
            found r.blocks read) (found_with all.0)
      ]

  -- ---- steps that leave what the file may hold

  pub next_cut : (len : ℕ) (x y : List ℕ) → length (file_of log) ≤ len → 4096 ≤ len → MayHoldNext log block x
      → MayBeCut len x y → MayHoldNext log block y
  next_cut len x y behind some h cut = record {
    long = ⊎_elim (λ a. omega (arith, h.long)) (λ b. omega arith) cut.longer;
    mixed = λ i.
        ⊎_elim
        (λ same. ⊎_elim (λ kept. inl (same ∙ kept)) (λ other. inr (other.0, other.1, other.2, same ∙ other.3))
        (h.mixed i))
        (λ gone. inl (gone.1 ∙ sym (get_or_past (file_of log) i 0 (omega (arith, gone.0)))))
        (cut.bytes i);
  }

  pub next_mixes : (w x y : List ℕ) → MayHoldNext log block w → MayHoldNext log block x → Mixes w x y
      → MayHoldNext log block y
  next_mixes w x y again h mixes = record {
    long = omega (arith, h.long, mixes.longer);
    mixed = λ i.
        ⊎_elim
        (λ same. ⊎_elim (λ kept. inl (same ∙ kept)) (λ other. inr (other.0, other.1, other.2, same ∙ other.3))
        (h.mixed i))
        (λ same. ⊎_elim (λ kept. inl (same ∙ kept)) (λ other. inr (other.0, other.1, other.2, same ∙ other.3))
        (again.mixed i))
        (mixes.bytes i);
  }

  pub gone_cut : (len : ℕ) (x y : List ℕ) → GoneFrom len file x → MayBeCut len x y → GoneFrom len file y
  gone_cut len x y h cut i = ⊎_elim (λ same.
      ⊎_elim (λ kept. inl (same ∙ kept)) (λ gone. inr (gone.0, same ∙ gone.1)) (h i)) (λ gone. inr gone) (cut.bytes i)

  pub gone_mixes : (len : ℕ) (w x y : List ℕ) → GoneFrom len file w → GoneFrom len file x → Mixes w x y
      → GoneFrom len file y
  gone_mixes len w x y again h mixes i =
      ⊎_elim
      (λ same. ⊎_elim (λ kept. inl (same ∙ kept)) (λ gone. inr (gone.0, same ∙ gone.1)) (h i))
      (λ same. ⊎_elim (λ kept. inl (same ∙ kept)) (λ gone. inr (gone.0, same ∙ gone.1)) (again i))
      (mixes.bytes i)

  -- ---- what they make of the file

  module _ (found : List Block) (f : Found log block file found) (len : ℕ)
      (len_is : len ≡ length (file_of (with_blocks log found))) where
    pub cut_done : (y : List ℕ) → 4096 ≤ len → IsCut len file y → HoldsLog (with_blocks log found) y
    cut_done y some cut = record {
      long = ⊎_elim (λ a. omega (arith, held.long)) (λ b. omega arith) cut.longer;
      same = λ i.
          elim (cases_lt i len) [
            | inl before ↦ cut.before i before ∙ f.same i (omega arith)
            | inr behind ↦ cut.behind i behind ∙ sym (get_or_past (file_of (with_blocks log found)) i 0 (omega arith))
          ];
    }

    pub gone_whole : (y : List ℕ) → HoldsLog (with_blocks log found) y → GoneFrom len file y
    gone_whole y whole i =
        elim (cases_lt i len) [
          | inl before ↦ inl (whole.same i ∙ sym (f.same i (omega arith)))
          | inr behind ↦ inr (behind, whole.same i ∙ get_or_past (file_of (with_blocks log found)) i 0 (omega arith))
        ]

    -- what a sync leaves that brings the last block and what was cut
    pub sync_left : (now left : List ℕ) → HoldsLog (with_blocks log found) now → MayHoldNext log block left
        → ((i : ℕ) → 4096 * last_begin 1 0 found ≤ i → get_or left i 0 ≡ get_or now i 0)
        → HoldsLog (with_blocks log found) left
    sync_left now left whole h brought = record {
      long = h.long;
      same = λ i.
          elim (cases_lt i (4096 * last_begin 1 0 found)) [
            | inl before ↦ ⊎_elim (λ kept. kept ∙ sym (f.front i (omega (arith, f.last))))
                (λ other. absurd (omega (arith, other.2, f.last))) (h.mixed i)
            | inr behind ↦ brought i behind ∙ whole.same i
          ];
    }

    -- ---- what is read of a file of which bytes may be gone

    gone_with : (left : List ℕ) → HoldsLog (with_blocks log found) file → MayHoldNext log block left
        → GoneFrom len file left → IsReadAs (with_blocks log found) left
    gone_with left whole h gone =
        log_is_read (with_blocks log found) left f.is_log (record {
          long = h.long;
          same = λ i. ⊎_elim (λ kept. kept ∙ whole.same i)
              (λ lost. lost.1 ∙ sym (get_or_past (file_of (with_blocks log found)) i 0 (omega (arith, lost.0))))
              (gone i);
        })

    -- where all of the next block is left, it was there
    was_there : (left : List ℕ) → GoneFrom len file left → HoldsLog (with_next log block) left
        → HoldsLog (with_next log block) file
    was_there left gone all = record {
      long = held.long;
      same = λ i. ⊎_elim (λ kept. sym kept ∙ all.same i) (λ lost. missing i lost.0 lost.1) (gone i);
    }
      where
        missing : (i : ℕ) → len ≤ i → get_or left i 0 ≡ 0 → get_or file i 0 ≡ get_or (file_of (with_next log block)) i 0
        missing i behind none =
            ⊎_elim
            (λ kept. kept ∙ get_or_past (file_of log) i 0 (omega (arith, f.longer)) ∙ sym none ∙ all.same i)
            (λ other. other.3 ∙ sym (byte_inside log block other.0)
            ∙ ap (λ k. get_or (file_of (with_next log block)) k 0) (sym other.2))
            (held.mixed i)

    gone_without : (left : List ℕ) → found ≡ log.blocks → recovered log.first (drop 4096 file) ≡ Ok found
        → MayHoldNext log block left → GoneFrom len file left → IsReadAs (with_blocks log found) left
    gone_without left bare read h gone =
        elim (next_is_read log block left is is_block h) [
          | inl r ↦ record { long = r.long; head = r.head; blocks = r.blocks ∙ ap Ok (sym bare) }
          | inr all ↦
              let r = log_is_read (with_next log block) file (next_log log block is is_block fits)
              (was_there left gone all.0) in
              let both : found ≡ log.blocks ++ block ∷ [] = same_found (recovered log.first (drop 4096 file)) found
              (log.blocks ++ block ∷ []) read r.blocks in
              absurd (omega (arith, ap length both, ap length bare, length_push log.blocks block))
        ]

    pub same_read : (left : List ℕ) → recovered log.first (drop 4096 file) ≡ Ok found → MayHoldNext log block left
        → GoneFrom len file left → IsReadAs (with_blocks log found) left
    same_read left read h gone = ⊎_elim (λ bare. gone_without left bare read h gone)
        (λ with'. gone_with left with'.1 h gone) f.which

-- A settling, call by call.
use Rattle.std.proofs.Common.{◌≡◌, ◌⊎◌, inl, inr, ⊎_elim, ℕ, ◌+◌, ◌*◌, ◌^◌, ◌<◌, ◌≤◌, List, length, get_or, drop}
use Rattle.std.proofs.Common.{refl, sym, ◌∙◌, ap, subst, arith}
use Rattle.std.specs.Prelude.{Result, Ok, Err, OnOk, OnErr}
use Rattle.log_blocks.specs.Blocks.{Block, IsBlock, batches_in, place_behind}
use Rattle.log_blocks.specs.Files.{IsSame, recovered}
use Rattle.log_blocks.specs.Scanning.{last_begin}
use Rattle.log_disk.specs.Disk.{IsCut, MayBeCut, Elapses, Follows, LeavesOnly}
use Rattle.log_disk.proofs.Steps.{cut_may}
use Rattle.log_file.specs.Logs.{Log, IsLog, HoldsLog, MayHoldNext, IsReadAs, with_blocks, file_of}
use Rattle.log_file.specs.Runs.{Stays}
use Rattle.log_file.specs.Writer.{CanSettle, IsEnd, IsSettled, IsUnsettled, Mixes}
use Rattle.log_file.specs.declared.writer.LogWriter.{LogWriter}
use Rattle.log_file.specs.declared.writer.LogEnd.{LogEnd}
use Rattle.log_file.proofs.LogLemmas.{file_long}
use Rattle.log_file.proofs.RunLemmas.{begun, stepped, stepped_twice, kept, moments_to}
use Rattle.log_file.proofs.Settling.{Found, GoneFrom, blocks_found, found_of, next_cut, next_mixes, gone_cut}
use Rattle.log_file.proofs.Settling.{gone_mixes, cut_done, gone_whole, sync_left, same_read}

-- what a cut makes, whether it succeeds or fails
pub some_cut : {A E : Type 0} (result : Result A E) (len : ℕ) (old new : List ℕ) → OnOk result (IsCut len old new)
    → OnErr result (MayBeCut len old new) → MayBeCut len old new
some_cut (Ok done) len old new cut part = cut_may len old new cut
some_cut (Err fault) len old new cut part = part

-- the file may hold the next block, and is the one that was read, of which bytes from this one on may be gone
abbrev pub StillReads : Log → Block → ℕ → List ℕ → List ℕ → Type 0
StillReads log block len file x = MayHoldNext log block x × GoneFrom len file x

same_mixes : (w y : List ℕ) → IsSame y w → length w ≤ length y → Mixes w w y
same_mixes w y same longer = record { bytes = λ i. inl (same i); longer = longer }

module _ {D : Type 0} (written : D → List ℕ) (may_leave : D → List ℕ → Type 0) (moment : D → ℕ)
    (left_since : D → ℕ → List ℕ → Type 0)
    (old : D) (first : ℕ) (end : LogEnd) (log : Log) (block : Block)
    (can : CanSettle written may_leave old first end log block) where
  held : MayHoldNext log block (written old)
  held = let u = can.unsettled in u.file

  -- ---- the cut and the blocks that were read

  found_known : (found : List Block) → recovered log.first (drop 4096 (written old)) ≡ Ok found
      → Found log block (written old) found
  found_known found read = found_of log block can.is_log can.block_is can.places (written old) held found read

  len_is : (found : List Block) → recovered log.first (drop 4096 (written old)) ≡ Ok found
      → 4096 * end.page ≡ length (file_of (with_blocks log found))
  len_is found read =
      let f = found_known found read in
      let e = can.end_is found read in
      omega (arith, e.page, file_long (with_blocks log found) f.is_log)

  some_page : (found : List Block) → recovered log.first (drop 4096 (written old)) ≡ Ok found → 4096 ≤ 4096 * end.page
  some_page found read = let e = can.end_is found read in omega (arith, e.page)

  len_longer : (found : List Block) → recovered log.first (drop 4096 (written old)) ≡ Ok found
      → length (file_of log) ≤ 4096 * end.page
  len_longer found read = let f = found_known found read in omega (arith, f.longer, len_is found read)

  there : (found : List Block) × (recovered log.first (drop 4096 (written old)) ≡ Ok found)
  there = blocks_found log block can.is_log can.block_is can.places (written old) held

  cut_step : (x y : List ℕ) → MayHoldNext log block x → MayBeCut (4096 * end.page) x y → MayHoldNext log block y
  cut_step x y h cut =
      next_cut log block can.is_log can.block_is can.places (written old) held (4096 * end.page) x y
      (len_longer there.0 there.1) (some_page there.0 there.1) h cut

  page_step : (w x y : List ℕ) → MayHoldNext log block w → MayHoldNext log block x → Mixes w x y
      → MayHoldNext log block y
  page_step w x y again h mixes = next_mixes log block can.is_log can.block_is can.places (written old) held w x y
      again h mixes

  -- ---- what the file may hold

  pub next_start : ((left : List ℕ) → left_since old (moment old) left → may_leave old left)
      → Stays written may_leave moment left_since (MayHoldNext log block) old old
  next_start only_now = let u = can.unsettled in begun written may_leave moment left_since (MayHoldNext log block) old
      u.file u.left only_now

  pub next_after_cut : (mid : D) → ((left : List ℕ) → left_since old (moment old) left → may_leave old left)
      → MayBeCut (4096 * end.page) (written old) (written mid)
      → Follows (MayBeCut (4096 * end.page)) (may_leave old) (may_leave mid)
      → Elapses (moment old) (moment mid) (left_since old) (left_since mid) (may_leave mid)
      → Stays written may_leave moment left_since (MayHoldNext log block) old mid
  next_after_cut mid only_now cut follows time =
      stepped written may_leave moment left_since (MayHoldNext log block) (MayBeCut (4096 * end.page)) old old mid
      (next_start only_now) cut_step (cut_step (written old) (written mid) held cut) follows time

  pub next_after_page : (mid new : D) → Stays written may_leave moment left_since (MayHoldNext log block) old mid
      → IsSame (written new) (written mid) → length (written mid) ≤ length (written new)
      → Follows (Mixes (written mid)) (may_leave mid) (may_leave new)
      → Elapses (moment mid) (moment new) (left_since mid) (left_since new) (λ l. may_leave mid l ⊎ may_leave new l)
      → Stays written may_leave moment left_since (MayHoldNext log block) old new
  next_after_page mid new run same longer follows time =
      stepped_twice written may_leave moment left_since (MayHoldNext log block) (Mixes (written mid)) old mid new run
      (λ x y h mixes. page_step (written mid) x y run.file h mixes)
      (page_step (written mid) (written mid) (written new) run.file run.file
      (same_mixes (written mid) (written new) same longer))
      follows time

  pub next_after_sync : (mid new : D) → Stays written may_leave moment left_since (MayHoldNext log block) old mid
      → written new ≡ written mid → ((left : List ℕ) → may_leave new left → may_leave mid left)
      → Elapses (moment mid) (moment new) (left_since mid) (left_since new) (may_leave new)
      → Stays written may_leave moment left_since (MayHoldNext log block) old new
  next_after_sync mid new run same fewer time = kept written may_leave moment left_since (MayHoldNext log block) old
      mid new run same fewer time

  pub next_moments : (new : D) → Stays written may_leave moment left_since (MayHoldNext log block) old new
      → LeavesOnly moment left_since old new (MayHoldNext log block)
  next_moments new run = run.moments

  pub next_unsettled : (new : D) → Stays written may_leave moment left_since (MayHoldNext log block) old new
      → IsUnsettled written may_leave new log block
  next_unsettled new run = record { file = run.file; left = run.left }

  -- ---- what is read of it

  module _ (found : List Block) (read : recovered log.first (drop 4096 (written old)) ≡ Ok found) where
    -- the file after the cut, and after each page
    pub whole_after_cut : (mid : D) → IsCut (4096 * end.page) (written old) (written mid)
        → HoldsLog (with_blocks log found) (written mid)
    whole_after_cut mid cut =
        cut_done log block can.is_log can.block_is can.places (written old) held found (found_known found read)
        (4096 * end.page) (len_is found read) (written mid) (some_page found read) cut

    pub whole_after_page : (mid new : D) → HoldsLog (with_blocks log found) (written mid)
        → IsSame (written new) (written mid) → length (written mid) ≤ length (written new)
        → HoldsLog (with_blocks log found) (written new)
    whole_after_page mid new whole same longer =
        record { long = omega (arith, whole.long, longer); same = λ i. same i ∙ whole.same i }

    pub settled_after_sync : (mid new : D) (writer : LogWriter) → writer.first ≡ first → writer.next ≡ end.next
        → writer.page ≡ end.page → Stays written may_leave moment left_since (MayHoldNext log block) old new
        → HoldsLog (with_blocks log found) (written mid) → written new ≡ written mid
        → ((left : List ℕ) → may_leave new left → (i : ℕ) → 4096 * end.last ≤ i
        → get_or left i 0 ≡ get_or (written mid) i 0)
        → IsSettled written may_leave new writer (with_blocks log found)
    settled_after_sync mid new writer first_is next_is page_is run whole same brought =
        let f = found_known found read in
        let e = can.end_is found read in
        record {
          first = first_is ∙ can.first_is;
          next = next_is ∙ e.next;
          page = page_is ∙ e.page;
          is_log = f.is_log;
          file = record {
            long = omega (arith, whole.long, ap length same);
            same = λ i. ap
                (λ (l : List ℕ). get_or l i 0) same ∙ whole.same i;
          };
          durable = λ left now.
              sync_left log block can.is_log can.block_is can.places (written old) held found f (4096 * end.page)
              (len_is found read) (written mid) left whole (run.left left now)
              (λ i le. brought left now i (omega (arith, le, e.last)));
        }

    -- after a loss of power
    module _ (only : (left : List ℕ) → may_leave old left → IsSame left (written old)) where
      gone_start : ((left : List ℕ) → left_since old (moment old) left → may_leave old left)
          → Stays written may_leave moment left_since (StillReads log block (4096 * end.page) (written old)) old old
      gone_start only_now =
          let u = can.unsettled in
          begun written may_leave moment left_since (StillReads log block (4096 * end.page) (written old)) old
          (u.file, λ i. inl refl) (λ left now. (u.left left now, λ i. inl (only left now i))) only_now

      gone_cut_step : (x y : List ℕ) → StillReads log block (4096 * end.page) (written old) x
          → MayBeCut (4096 * end.page) x y → StillReads log block (4096 * end.page) (written old) y
      gone_cut_step x y h cut = (
        cut_step x y h.0 cut,
        gone_cut log block can.is_log can.block_is can.places
            (written old) held (4096 * end.page) x y h.1 cut,
      )

      pub gone_after_cut : (mid : D) → ((left : List ℕ) → left_since old (moment old) left → may_leave old left)
          → MayBeCut (4096 * end.page) (written old) (written mid)
          → Follows (MayBeCut (4096 * end.page)) (may_leave old) (may_leave mid)
          → Elapses (moment old) (moment mid) (left_since old) (left_since mid) (may_leave mid)
          → Stays written may_leave moment left_since (StillReads log block (4096 * end.page) (written old)) old mid
      gone_after_cut mid only_now cut follows time =
          stepped written may_leave moment left_since (StillReads log block (4096 * end.page) (written old))
          (MayBeCut (4096 * end.page)) old old mid (gone_start only_now) gone_cut_step
          (gone_cut_step (written old) (written mid) (held, λ i. inl refl) cut)
          follows time

      pub gone_after_page : (mid new : D) → Stays written may_leave moment left_since
          (StillReads log block (4096 * end.page) (written old)) old mid
          → HoldsLog (with_blocks log found) (written mid)
          → IsSame (written new) (written mid) → length (written mid) ≤ length (written new)
          → Follows (Mixes (written mid)) (may_leave mid) (may_leave new)
          → Elapses (moment mid) (moment new) (left_since mid) (left_since new)
          (λ l. may_leave mid l ⊎ may_leave new l)
          → Stays written may_leave moment left_since (StillReads log block (4096 * end.page) (written old)) old new
      gone_after_page mid new run whole same longer follows time =
          let step : (x y : List ℕ) → StillReads log block (4096 * end.page) (written old) x → Mixes (written mid) x y
          → StillReads log block (4096 * end.page) (written old) y = λ x y h mixes.
          let file = run.file in (
            page_step (written mid) x y file.0 h.0 mixes,
            gone_mixes log block can.is_log can.block_is can.places (written old) held (4096 * end.page) (written mid)
                x y
                (gone_whole log block can.is_log can.block_is can.places (written old) held found
                (found_known found read) (4096 * end.page) (len_is found read) (written mid) whole)
                h.1 mixes,
          ) in
          stepped_twice written may_leave moment left_since (StillReads log block (4096 * end.page) (written old))
          (Mixes (written mid)) old mid new run step
          (step (written mid) (written new) run.file (same_mixes (written mid) (written new) same longer))
          follows time

      pub gone_after_sync : (mid new : D) → Stays written may_leave moment left_since
          (StillReads log block (4096 * end.page) (written old)) old mid → written new ≡ written mid
          → ((left : List ℕ) → may_leave new left → may_leave mid left)
          → Elapses (moment mid) (moment new) (left_since mid) (left_since new) (may_leave new)
          → Stays written may_leave moment left_since (StillReads log block (4096 * end.page) (written old)) old new
      gone_after_sync mid new run same fewer time = kept written may_leave moment left_since
          (StillReads log block (4096 * end.page) (written old)) old mid new run same fewer time

      pub gone_moments : (new : D) → Stays written may_leave moment left_since
          (StillReads log block (4096 * end.page) (written old)) old new
          → LeavesOnly moment left_since old new (IsReadAs (with_blocks log found))
      gone_moments new run =
          moments_to written may_leave moment left_since (StillReads log block (4096 * end.page) (written old))
          (IsReadAs (with_blocks log found)) old new
          (λ left h. same_read log block can.is_log can.block_is can.places (written old) held found
          (found_known found read) (4096 * end.page) (len_is found read) left read h.0 h.1)
          run

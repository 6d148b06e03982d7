-- The two calls of an append.
use Rattle.std.proofs.Common.{◌≡◌, ℕ, ◌+◌, ◌*◌, ◌^◌, ◌<◌, ◌≤◌, ◌-◌, List, length, get_or, sym, ◌∙◌, ap, arith}
use Rattle.log_blocks.specs.Blocks.{Block}
use Rattle.log_blocks.proofs.FilePages.{page_total, place_push, next_end}
use Rattle.log_disk.specs.Disk.{Holds, HoldsSome, Elapses, Follows, LeavesOnly}
use Rattle.log_file.specs.Logs.{Log, IsLog, HoldsLog, MayHoldNext, with_next, file_of}
use Rattle.log_file.specs.Runs.{Stays}
use Rattle.log_file.specs.Writer.{CanAppend, IsLong, IsSettled, IsUnsettled}
use Rattle.log_file.specs.declared.writer.LogWriter.{LogWriter}
use Rattle.log_file.proofs.LogLemmas.{file_long, log_held, next_held, part_held, all_held, all_left, next_log}
use Rattle.log_file.proofs.RunLemmas.{begun, stepped, kept}

module _ {D : Type 0} (written : D → List ℕ) (may_leave : D → List ℕ → Type 0) (moment : D → ℕ)
    (left_since : D → ℕ → List ℕ → Type 0)
    (old : D) (writer : LogWriter) (log : Log) (block : Block) (bytes : List ℕ) (pages batches : ℕ)
    (can : CanAppend written may_leave old writer log block bytes pages batches) where
  -- the block is written where the log ends
  pub begins : 4096 * writer.page ≡ length (file_of log)
  begins = let s = can.settled in omega (arith, s.page, file_long log s.is_log)

  -- after the write, as far as it came
  pub write_run : (mid : D) → ((left : List ℕ) → left_since old (moment old) left → may_leave old left)
      → MayHoldNext log block (written mid) → Follows (HoldsSome (4096 * writer.page) bytes) (may_leave old)
      (may_leave mid)
      → Elapses (moment old) (moment mid) (left_since old) (left_since mid) (may_leave mid)
      → Stays written may_leave moment left_since (MayHoldNext log block) old mid
  write_run mid only_now file follows time =
      let s = can.settled in
      let start = begun written may_leave moment left_since (MayHoldNext log block) old
      (log_held log block (written old) s.file) (λ l now. log_held log block l (s.durable l now)) only_now in
      stepped written may_leave moment left_since (MayHoldNext log block) (HoldsSome (4096 * writer.page) bytes) old
      old mid start
      (λ x y held some. part_held log block (4096 * writer.page) bytes x y begins can.bytes_are held some)
      file follows time

  pub part_written : (mid : D) → HoldsSome (4096 * writer.page) bytes (written old) (written mid)
      → MayHoldNext log block (written mid)
  part_written mid some =
      let s = can.settled in
      part_held log block (4096 * writer.page) bytes (written old) (written mid) begins can.bytes_are
      (log_held log block (written old) s.file) some

  pub all_written : (mid : D) → Holds (4096 * writer.page) bytes (written old) (written mid)
      → HoldsLog (with_next log block) (written mid)
  all_written mid holds = let s = can.settled in all_held log block (4096 * writer.page) bytes (written old)
      (written mid) begins can.bytes_are s.file holds

  pub all_may_hold : (mid : D) → Holds (4096 * writer.page) bytes (written old) (written mid)
      → MayHoldNext log block (written mid)
  all_may_hold mid holds = next_held log block (written mid) (all_written mid holds)

  -- after the sync
  pub sync_run : (mid new : D) → Stays written may_leave moment left_since (MayHoldNext log block) old mid
      → written new ≡ written mid → ((left : List ℕ) → may_leave new left → may_leave mid left)
      → Elapses (moment mid) (moment new) (left_since mid) (left_since new) (may_leave new)
      → Stays written may_leave moment left_since (MayHoldNext log block) old new
  sync_run mid new so_far same fewer time = kept written may_leave moment left_since (MayHoldNext log block) old mid
      new so_far same fewer time

  pub moments_of : (new : D) → Stays written may_leave moment left_since (MayHoldNext log block) old new
      → LeavesOnly moment left_since old new (MayHoldNext log block)
  moments_of new run = run.moments

  pub unsettled_of : (new : D) → Stays written may_leave moment left_since (MayHoldNext log block) old new
      → IsUnsettled written may_leave new log block
  unsettled_of new run = record { file = run.file; left = run.left }

  pub next_is_log : writer.next + batches < 2 ^ 64 → IsLog (with_next log block)
  next_is_log fits = let s = can.settled in next_log log block s.is_log can.block_is
      (omega (arith, fits, s.next, can.batches_are))

  -- what a loss of power leaves after both
  pub synced_left : (mid new : D) (left : List ℕ)
      → Stays written may_leave moment left_since (MayHoldNext log block) old new
      → Holds (4096 * writer.page) bytes (written old) (written mid)
      → may_leave new left → ((j : ℕ) → j < length bytes
      → get_or left (4096 * writer.page + j) 0 ≡ get_or (written mid) (4096 * writer.page + j) 0)
      → HoldsLog (with_next log block) left
  synced_left mid new left run holds now brought = all_left log block (4096 * writer.page) bytes (written mid) left
      begins can.bytes_are (all_written mid holds) (run.left left now) brought

  pub settled_next : (mid new : D) (after : LogWriter) → after.first ≡ writer.first
      → after.next ≡ writer.next + batches → after.page ≡ writer.page + pages → writer.next + batches < 2 ^ 64
      → Stays written may_leave moment left_since (MayHoldNext log block) old new
      → Holds (4096 * writer.page) bytes (written old) (written mid) → written new ≡ written mid
      → ((left : List ℕ) → may_leave new left → (j : ℕ) → j < length bytes
      → get_or left (4096 * writer.page + j) 0 ≡ get_or (written mid) (4096 * writer.page + j) 0)
      → IsSettled written may_leave new after (with_next log block)
  settled_next mid new after first next page fits run holds same brought =
      let s = can.settled in
      let there = all_written mid holds in
      record {
        first = first ∙ s.first;
        next = omega (arith, next, s.next, can.batches_are, place_push log.first log.blocks block);
        page = omega (arith, page, s.page, can.pages_are, page_total log.first log.blocks block);
        is_log = next_is_log fits;
        file = record {
          long = omega (arith, there.long, ap length same);
          same = λ i. ap
              (λ (l : List ℕ). get_or l i 0) same ∙ there.same i;
        };
        durable = λ left now. synced_left mid new left run holds now (brought left now);
      }

  -- the room that there was
  pub room_stays : (mid new : D) (page room : ℕ) → page ≡ writer.page + pages → room ≡ writer.room - pages
      → IsLong written may_leave old (4096 * (writer.page + writer.room))
      → Holds (4096 * writer.page) bytes (written old) (written mid) → written new ≡ written mid
      → ((left : List ℕ) → may_leave new left → length (written mid) ≤ length left)
      → IsLong written may_leave new (4096 * (page + room))
  room_stays mid new page room page_is room_is long holds same left =
      let block_long : length bytes ≡ 4096 * pages =
      ap length can.bytes_are
      ∙ next_end log.first log.blocks block can.settled.is_log.places can.block_is.fills
      ∙ ap (λ n. 4096 * n) (sym can.pages_are)
      in
      let enough : 4096 * (page + room) ≤ length (written mid) =
      omega (arith, page_is, room_is, long.file, holds.longer, holds.ends, block_long)
      in
      record {
        file = omega (arith, enough, ap length same);
        left = λ l now. omega (arith, enough, left l now);
      }

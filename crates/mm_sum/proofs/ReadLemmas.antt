-- What reading one more block does to a sum of a text: it goes on, ends or stops, and the sum takes the block or not.
use Rattle.std.proofs.Common.{◌≡◌, ◌≢◌, ℕ, ◌+◌, ◌<◌, ◌^◌, Bool, true, false, List, [], ◌++◌, length, Option, Some}
use Rattle.std.proofs.Common.{Result, Ok, Err, refl, sym, ◌∙◌, ap, subst, arith, get_or, inl, inr, append_assoc}
use Rattle.std.proofs.Common.{◌≤◌, zero, suc}
use Rattle.std.proofs.lemmas.List.{get_or-append-add, length-append, append-nil}
use Rattle.std.specs.Prelude.{None, IfOk, IfErr}
use Rattle.byte_io.specs.Streams.{bytes_of_calls}
use Rattle.byte_io.specs.declared.fault.DeviceFault.{DeviceFault}
use Rattle.byte_io.proofs.StreamLemmas.{calls-append}
use Rattle.cells.specs.Bounds.{IsWithin, AreWithin}
use Rattle.cells.specs.declared.cell.Cell.{Cell}
use Rattle.mm_text.specs.Faults.{Explains}
use Rattle.mm_text.specs.Readings.{size_of, pending, HasRead, SpelledBy, GoesOn, Ends, ReadsBlock, Stops, SizedCells}
use Rattle.mm_text.specs.Readings.{AreSized}
use Rattle.mm_text.specs.Stages.{state, state_of, declared_size}
use Rattle.mm_text.specs.Texts.{Spells}
use Rattle.mm_text.specs.declared.fault.MmFault.{MmFault}
use Rattle.mm_text.specs.declared.fault.MmKind.TheVariants as kind
use Rattle.mm_text.specs.declared.text_reader.TextReader.{TextReader}
use Rattle.mm_text.specs.declared.size.Size.{Size}
use Rattle.mm_text.specs.declared.stages.Stage.TheVariants.{AtBanner}
use Rattle.mm_text.proofs.PiecesLemmas.{held_none, holds_none}
use Rattle.mm_text.proofs.BoundLemmas.{stage_sized, spells_bounds}
use Rattle.mm_text.proofs.Clean.{none_within_lines}
use Rattle.mm_text.proofs.Faultless.{spells_clean}
use Rattle.cells.proofs.SumLaws.{total-append}
use Rattle.hyper_matrix.specs.Cells.{cell_total}
use Rattle.hyper_matrix.specs.Matrix.{Matrix}
use Rattle.mm_sum.specs.Sum.{sum_limits, ReadsText, StopsText, IsUnsummed}
use Rattle.mm_sum.specs.Running.{IsSumOf, CanTake}
use Rattle.mm_sum.specs.Reading.{IsSized, HandsOut, Begins, IsSumming, HasSummed, IsSummed}
use Rattle.mm_sum.specs.Several.{IsUnsummedBehind}
use Rattle.mm_sum.specs.declared.running_sum.RunningSum.{RunningSum}
use Rattle.mm_sum.specs.declared.running_sum.RunningSum.TheVariants.{Fits, TooLarge}

within_back : (r c : ℕ) (xs ys : List Cell) → AreWithin r c (xs ++ ys) → AreWithin r c ys
within_back r c xs ys h k d l =
    let e : get_or (xs ++ ys) (length xs + k) d ≡ get_or ys k d = get_or-append-add xs ys k d in
    let at : IsWithin r c (get_or (xs ++ ys) (length xs + k) d) = h (length xs + k) d
    (omega (arith, length-append xs ys)) in
    subst (IsWithin r c) e at

pub same_some : (x y : Size) → Some x ≡ Some y → x ≡ y
same_some x y e = cc

-- the cells of a whole text lie within its dimensions
spelled_sized : (text : List ℕ) (size : Size) (cells : List Cell) → Spells text sum_limits size.rows size.cols cells →
    SizedCells cells size
spelled_sized text size cells spells =
    let bounds = spells_bounds text sum_limits size.rows size.cols cells spells in
    record { rows = bounds.0; cols = bounds.1; within = bounds.2 }

-- a sum takes cells that lie within its dimensions
pub can_take : (rows cols : ℕ) (cells block : List Cell) (sum : RunningSum) → IsSumOf rows cols cells sum →
    AreWithin rows cols block → CanTake sum block
can_take rows cols cells block (Fits m) is within =
    subst (λ (x : Matrix). AreWithin x.rows x.cols block) (sym is) within
can_take rows cols cells block TooLarge is within = tt

-- of two parts of a list each fits where both fit together
later_fits : (earlier cells : List Cell) → cell_total (earlier ++ cells) < 2 ^ 64 → cell_total cells < 2 ^ 64
later_fits earlier cells fits = omega (arith, fits, total-append earlier cells)

-- what isn't judged yet is at most what a buffer holds
pending_short : (reader : TextReader) → length (pending reader) ≤ 65536
pending_short reader = reader.short

-- and what is beyond the limit at most a byte
beyond_short : (room : ℕ) (beyond : List ℕ) → (0 < room → beyond ≡ []) → (room ≡ 0 → length beyond ≡ 1) →
    length beyond ≤ 1
beyond_short zero beyond none one = omega (arith, one refl)
beyond_short (suc room) beyond none one = let nothing : 0 < suc room = omega arith in
    omega (arith, ap length (none nothing))

module _ {S : Type 0} (gives : S → Result (List ℕ) DeviceFault → S → Type 0) (at_end : S → Type 0)
    (failures : S → ℕ) where
  -- Nothing was read.
  pub hands_out_none : (s : S) (reader : TextReader) → HasRead sum_limits [] [] reader →
      HandsOut gives at_end failures s s reader []
  hands_out_none s reader read = record { answers = []; calls = refl; none_failed = refl; has_read = read }

  -- there was no memory to begin with
  pub unread : (s : S) → IsUnsummed gives at_end failures s s
  unread s = record {
    answers = [];
    calls = refl;
    reads = omega arith;
    none_failed = refl;
    before = [];
    behind = [];
    text_is = refl;
    near = omega arith;
    none_within = held_none sum_limits [] [] AtBanner [] 0 (holds_none sum_limits);
    cells = [];
    cells_are = inl (state [] AtBanner 0, holds_none sum_limits);
    fits = omega arith;
  }

  -- the same where no text stands before it
  pub unread_first : (s : S) → IsUnsummedBehind gives at_end failures [] s s
  unfolding unread
  unread_first s = record { unsummed = unread s; fits = omega arith }

  -- cells that were handed out lie within the size line's dimensions
  pub handed_sized : (s t : S) (reader : TextReader) (cells : List Cell) (size : Size) →
      HandsOut gives at_end failures s t reader cells → size_of reader ≡ Some size → SizedCells cells size
  unfolding size_of
  handed_sized s t reader cells size out is =
      let sized = stage_sized sum_limits _ cells reader.lines.progress.stage out.has_read.holds.takes.keeps.stage_is in
      subst (AreSized cells) is sized

  -- once a cell was handed out, the size line was read
  some_sized : (s t : S) (reader : TextReader) (cells : List Cell) → HandsOut gives at_end failures s t reader cells →
      0 < length cells → IsSized reader cells
  unfolding size_of
  some_sized s t reader cells out some = step (declared_size reader.lines.progress.stage) refl
      (stage_sized sum_limits _ cells reader.lines.progress.stage out.has_read.holds.takes.keeps.stage_is)
    where
      step : (o : Option Size) → declared_size reader.lines.progress.stage ≡ o → AreSized cells o → IsSized reader cells
      step None e h = absurd (omega (arith, ap length h))
      step (Some size) e h = record { size = size; size_is = e; sized = h }

  -- Memory ran out behind the cells that were handed out, whose counts fit.
  handed_unsummed : (s t : S) (reader : TextReader) (cells : List Cell) →
      HandsOut gives at_end failures s t reader cells → cell_total cells < 2 ^ 64 →
      (none : IsUnsummed gives at_end failures s t) × (none.cells ≡ cells)
  handed_unsummed s t reader cells out fits =
      let read = out.has_read in (
        record {
          answers = out.answers;
          calls = out.calls;
          reads = omega (arith, read.reads, read.room_is);
          none_failed = out.none_failed;
          before = read.judged;
          behind = pending reader ++ read.beyond;
          text_is = read.text_is ∙ append_assoc read.judged (pending reader) read.beyond;
          near = omega (
            arith,
            pending_short reader,
            beyond_short reader.room read.beyond read.none_beyond read.one_beyond,
            length-append (pending reader) read.beyond,
          );
          none_within = held_none sum_limits read.judged _ _ cells _ read.holds;
          cells = cells;
          cells_are = inl (state_of reader.lines, read.holds);
          fits = fits;
        },
        refl,
      )

  -- The same with the cells of texts before it.
  unsummed : (earlier : List Cell) (s t : S) (reader : TextReader) (cells : List Cell) →
      HandsOut gives at_end failures s t reader cells → cell_total (earlier ++ cells) < 2 ^ 64 →
      IsUnsummedBehind gives at_end failures earlier s t
  unsummed earlier s t reader cells out fits =
      let none = handed_unsummed s t reader cells out (later_fits earlier cells fits) in
      record {
        unsummed = none.0;
        fits = subst (λ (held : List Cell). cell_total (earlier ++ held) < 2 ^ 64) (sym none.1) fits;
      }

  -- Memory ran out behind a whole text, whose counts fit.
  pub unsummed_text : (s t : S) (rows cols : ℕ) (cells : List Cell) →
      ReadsText gives at_end failures s t rows cols cells → cell_total cells < 2 ^ 64 →
      IsUnsummed gives at_end failures s t
  unsummed_text s t rows cols cells text fits =
      let bytes = bytes_of_calls text.answers in
      record {
        answers = text.answers;
        calls = text.calls;
        reads = text.reads;
        none_failed = text.none_failed;
        before = bytes;
        behind = [];
        text_is = sym (append-nil bytes);
        near = omega arith;
        none_within = none_within_lines bytes sum_limits
            (spells_clean bytes sum_limits rows cols cells text.spells) text.spells.fits;
        cells = cells;
        cells_are = inr (rows, cols, text.spells);
        fits = fits;
      }

  -- The same with the cells of texts before it.
  text_unsummed : (earlier : List Cell) (s t : S) (rows cols : ℕ) (cells : List Cell) →
      ReadsText gives at_end failures s t rows cols cells → cell_total (earlier ++ cells) < 2 ^ 64 →
      IsUnsummedBehind gives at_end failures earlier s t
  unfolding unsummed_text
  text_unsummed earlier s t rows cols cells text fits =
      let held = unsummed_text s t rows cols cells text (later_fits earlier cells fits) in
      record { unsummed = held; fits = fits }

  -- Memory ran out behind the first block of a text.
  pub begun_unsummed : (earlier : List Cell) (s t : S) (reader : TextReader) (size : Size) (cells : List Cell)
      (more : Bool) → Begins gives at_end failures s t reader size cells more →
      cell_total (earlier ++ cells) < 2 ^ 64 → IsUnsummedBehind gives at_end failures earlier s t
  begun_unsummed earlier s t reader size cells true begun fits = unsummed earlier s t reader cells begun.0 fits
  begun_unsummed earlier s t reader size cells false begun fits =
      text_unsummed earlier s t size.rows size.cols cells begun fits

  -- The first block of a text was added to the sum of those before it.
  pub begun_summed : (earlier : List Cell) (s t : S) (reader : TextReader) (size : Size) (cells : List Cell)
      (sum : RunningSum) (more : Bool) → Begins gives at_end failures s t reader size cells more →
      IsSumOf size.rows size.cols (earlier ++ cells) sum →
      IsSummed gives at_end failures earlier s t reader size sum more
  begun_summed earlier s t reader size cells sum true begun is =
      record { cells = cells; hands_out = begun.0; size_is = begun.1; sum_is = is }
  begun_summed earlier s t reader size cells sum false begun is =
      record { cells = cells; reads_text = begun; sum_is = is }

  -- One more block was read in the place of an empty one.
  module _ (s t t' : S) (reader reader' : TextReader) (cells none block : List Cell)
      (out : HandsOut gives at_end failures s t reader cells) (is_none : none ≡ [])
      (same : failures t' ≡ failures t) where
    goes_on : GoesOn gives t t' reader reader' none block → HandsOut gives at_end failures s t' reader' (cells ++ block)
    goes_on goes =
        let given : block ≡ goes.cells = goes.block_is ∙ ap (λ (b : List Cell). b ++ goes.cells) is_none in
        record {
          answers = out.answers ++ goes.answers;
          calls = calls-append gives out.answers goes.answers s t t' out.calls goes.calls;
          none_failed = same ∙ out.none_failed;
          has_read = subst (λ (b : List Cell). HasRead sum_limits (out.answers ++ goes.answers) (cells ++ b) reader')
              (sym given) (goes.has_read sum_limits out.answers cells out.has_read);
        }

    ends : Ends gives at_end t t' reader reader' none block →
        (size : Size) × (size_of reader' ≡ Some size) × ReadsText gives at_end failures s t' size.rows size.cols
        (cells ++ block)
    ends e =
        let given : block ≡ e.cells = e.block_is ∙ ap (λ (b : List Cell). b ++ e.cells) is_none in
        let spelled : SpelledBy sum_limits (out.answers ++ e.answers) (cells ++ block) reader' =
        subst (λ (b : List Cell). SpelledBy sum_limits (out.answers ++ e.answers) (cells ++ b) reader') (sym given)
        (e.spelled sum_limits out.answers cells out.has_read) in (
          spelled.size,
          spelled.size_is,
          record {
            answers = out.answers ++ e.answers;
            calls = calls-append gives out.answers e.answers s t t' out.calls e.calls;
            reads = spelled.reads;
            ended = e.ended;
            none_failed = same ∙ out.none_failed;
            spells = spelled.spells;
          },
        )

    -- by now the size line was read
    pub sized : (more : Bool) → ReadsBlock gives at_end t t' reader reader' none block more →
        (more ≡ true → 0 < length block) → IsSized reader' (cells ++ block)
    sized true goes some = some_sized s t' reader' (cells ++ block) (goes_on goes)
        (omega (arith, some refl, length-append cells block))
    sized false e some =
        let end = ends e in
        record { size = end.0; size_is = end.1; sized = spelled_sized _ end.0 (cells ++ block) end.2.spells }

    -- It is the first of a text with this size line.
    pub begins : (size : Size) (more : Bool) → ReadsBlock gives at_end t t' reader reader' none block more →
        size_of reader' ≡ Some size → Begins gives at_end failures s t' reader' size (cells ++ block) more
    begins size true goes size_is = (goes_on goes, size_is)
    begins size false e size_is =
        let end = ends e in
        let same_size : end.0 ≡ size = same_some end.0 size (sym end.1 ∙ size_is) in
        subst (λ (z : Size). ReadsText gives at_end failures s t' z.rows z.cols (cells ++ block)) same_size end.2

    -- The sum takes the block.
    pub takes : (earlier : List Cell) (size : Size) (sum : RunningSum) (more : Bool) →
        IsSumOf size.rows size.cols (earlier ++ cells) sum →
        ReadsBlock gives at_end t t' reader reader' none block more → size_of reader' ≡ Some size → CanTake sum block
    takes earlier size sum true is goes size_is =
        can_take size.rows size.cols (earlier ++ cells) block sum is (within_back size.rows size.cols cells block
        (handed_sized s t' reader' (cells ++ block) size (goes_on goes) size_is).within)
    takes earlier size sum false is e size_is =
        let end = ends e in
        let same_size : end.0 ≡ size = same_some end.0 size (sym end.1 ∙ size_is) in
        let text : ReadsText gives at_end failures s t' size.rows size.cols (cells ++ block) = subst
        (λ (z : Size). ReadsText gives at_end failures s t' z.rows z.cols (cells ++ block)) same_size end.2 in
        can_take size.rows size.cols (earlier ++ cells) block sum is (within_back size.rows size.cols cells block
        (spelled_sized _ size (cells ++ block) text.spells).within)

    behind : (earlier : List Cell) → cell_total (earlier ++ cells ++ block) < 2 ^ 64 →
        cell_total (earlier ++ (cells ++ block)) < 2 ^ 64
    behind earlier fits = subst (λ (all : List Cell). cell_total all < 2 ^ 64) (append_assoc earlier cells block) fits

    -- There was no memory for the block, whose counts fit behind the others.
    pub block_unsummed : (earlier : List Cell) (more : Bool) →
        ReadsBlock gives at_end t t' reader reader' none block more →
        cell_total (earlier ++ cells ++ block) < 2 ^ 64 → IsUnsummedBehind gives at_end failures earlier s t'
    block_unsummed earlier true goes fits = unsummed earlier s t' reader' (cells ++ block) (goes_on goes)
        (behind earlier fits)
    block_unsummed earlier false e fits = let end = ends e in text_unsummed earlier s t' end.0.rows end.0.cols
        (cells ++ block) end.2 (behind earlier fits)

    -- The block was added, and the text goes on.
    pub summing : (earlier : List Cell) (size : Size) (sum : RunningSum) →
        GoesOn gives t t' reader reader' none block → size_of reader' ≡ Some size →
        IsSumOf size.rows size.cols (earlier ++ cells ++ block) sum →
        (now : IsSumming gives at_end failures earlier s t' reader' size sum)
        × (length now.cells ≡ length cells + length block)
    summing earlier size sum goes size_is sum_is = (
      record {
        cells = cells ++ block;
        hands_out = goes_on goes;
        size_is = size_is;
        sum_is = subst (λ (all : List Cell). IsSumOf size.rows size.cols all sum) (append_assoc earlier cells block)
            sum_is;
      },
      length-append cells block,
    )

    -- The block was added, and the text has ended.
    pub summed : (earlier : List Cell) (size : Size) (sum : RunningSum) →
        Ends gives at_end t t' reader reader' none block → size_of reader' ≡ Some size →
        IsSumOf size.rows size.cols (earlier ++ cells ++ block) sum →
        HasSummed gives at_end failures earlier s t' size sum
    summed earlier size sum e size_is sum_is =
        let end = ends e in
        let same_size : end.0 ≡ size = same_some end.0 size (sym end.1 ∙ size_is) in
        record {
          cells = cells ++ block;
          reads_text = subst (λ (z : Size). ReadsText gives at_end failures s t' z.rows z.cols
              (cells ++ block)) same_size end.2;
          sum_is = subst (λ (all : List Cell). IsSumOf size.rows size.cols all sum) (append_assoc earlier cells block)
              sum_is;
        }

  -- The reading stopped with a fault that isn't want of memory.
  pub stopped : (s t t' : S) (reader : TextReader) (cells none front : List Cell) (fault : MmFault) →
      HandsOut gives at_end failures s t reader cells →
      Stops gives (at_end t') (failures t' ≡ failures t + 1) t t' reader none front fault.kind fault.line →
      (fault.kind ≢ kind.Read → failures t' ≡ failures t) → fault.kind ≢ kind.Memory →
      StopsText gives at_end failures s t' fault.kind fault.line
  stopped s t t' reader cells none front fault out stops same other =
      let explained = stops.explained sum_limits out.answers cells out.has_read in
      record {
        answers = out.answers ++ stops.answers;
        calls = calls-append gives out.answers stops.answers s t t' out.calls stops.calls;
        reads = explained.reads;
        explains = subst (λ (n : ℕ). Explains (bytes_of_calls (out.answers ++ stops.answers)) sum_limits (at_end t')
            (failures t' ≡ n + 1) fault.kind fault.line) out.none_failed explained.explains;
        no_memory_fault = other;
        read_alone_fails = λ not_read. same not_read ∙ out.none_failed;
      }

-- what holds of every Ok, by what is known of it
pub if_ok : {T E : Type 0} (r : Result T E) (P Q : T → Type 0) → ((x : T) → P x → Q x) → IfOk r P → IfOk r Q
if_ok (Ok x) P Q f h = f x h
if_ok (Err e) P Q f h = h

-- and of every Err
pub if_err : {T E : Type 0} (r : Result T E) (P Q : E → Type 0) → ((e : E) → P e → Q e) → IfErr r P → IfErr r Q
if_err (Ok x) P Q f h = h
if_err (Err e) P Q f h = f e h

-- How one request is answered.
--     PutsBatch       the text of a Put spells a matrix with no more rows and no more columns than the setup, and this
--                     is the batch of its cells, in the setup's dimensions
--     RefusesText     the text is refused, with this code and detail, before the keeper is asked
--     PutsCells       the cells of a PutCells make a matrix of the setup's dimensions, and this is their batch
--     RefusesCells    the cells are refused, with this code and detail, before the keeper is asked
--     Asks            the calls of a keeper that a request leads to. A Range, a Top and a Groups ask for the sum; what
--                     they are answered of it, once it is there, Tells says (specs/Questions.antt)
--     Refuses         the replies that a request gets without a call
--     Answers         a request gets this reply, and leads the keeper from one state to another
--     RunsOut         memory ran out for this request, before the call that it leads to or in it
use Rattle.std.specs.Prelude.{◌≡◌, ◌⊎◌, ℕ, ◌+◌, ◌<◌, ◌≤◌, ◌^◌, List, length, Option, Some, None, Result, Ok, Err}
use Rattle.std.specs.declared.alloc.AllocError.{AllocError}
use Rattle.cells.specs.declared.cell.Cell.{Cell}
use Rattle.mm_text.specs.Texts.{Spells, FirstFault}
use Rattle.mm_text.specs.declared.limits.TextLimits.{TextLimits}
use Rattle.mm_text.specs.declared.fault.MmKind.{MmKind}
use Rattle.mm_text.specs.declared.fault.MmKind.TheVariants as kinds
use Rattle.hyper_matrix.specs.declared.row_sum.RowSum.{RowSum}
use Rattle.hyper_matrix.specs.Matrix.{Matrix, matrix}
use Rattle.hyper_matrix.specs.Cells.{built_of, cell_total}
use Rattle.batch_store.specs.Setups.{Setting}
use Rattle.batch_store.specs.Batches.{Submission, submission}
use Rattle.batch_store.specs.Lists.{MakesBatch, LeavesAt, PassesSum}
use Rattle.batch_store.specs.declared.verdict.Kept.{Kept}
use Rattle.plain_engine.specs.declared.status.Status.{Status as Counted}
use Rattle.wire_proto.specs.CellBytes.{cells_of}
use Rattle.wire_proto.specs.Keeping.{Event, put, cell, row, status, export, save, stored, stats, fold}
use Rattle.wire_proto.specs.Telling.{Telling}
use Rattle.wire_proto.specs.Replies.{reply_of, refused}
use Rattle.wire_proto.specs.Questions.{AreBounds, IsCount, AreRows, AreGroups, Tells}
use Rattle.wire_frames.specs.declared.request.Request.{Request}
use Rattle.wire_frames.specs.declared.request.Request.TheVariants.{Put, Cell as CellAt, Row, Status, Export, Save, Stop}
use Rattle.wire_frames.specs.declared.request.Request.TheVariants.{PutCells, Stored, Range, Top, Stats, Fold, Groups}
use Rattle.wire_proto.specs.declared.keeper.PutRefusal.{PutRefusal}
use Rattle.wire_proto.specs.declared.keeper.SaveRefusal.{SaveRefusal}
use Rattle.wire_proto.specs.declared.keeper.FoldRefusal.{FoldRefusal}

-- the limits of a Put's text
abbrev pub put_limits : TextLimits
put_limits = record { max_bytes = 67108864; max_entries = 1048576 }

-- the kinds of faults of a text are numbered
abbrev pub kind_number : MmKind → ℕ
kind_number kinds.Read = 1
kind_number kinds.Memory = 2
kind_number kinds.BadBanner = 3
kind_number kinds.Unsupported = 4
kind_number kinds.LineTooLong = 5
kind_number kinds.BadSize = 6
kind_number kinds.BadDimension = 7
kind_number kinds.NotSquare = 8
kind_number kinds.TooManyEntries = 9
kind_number kinds.BadEntry = 10
kind_number kinds.Negative = 11
kind_number kinds.NumberTooLarge = 12
kind_number kinds.IndexOutOfRange = 13
kind_number kinds.TooFewEntries = 14
kind_number kinds.ExtraText = 15
kind_number kinds.TooLong = 16

pub record PutsBatch (setup : Setting) (client n : ℕ) (bytes : List ℕ) (batch : Submission) : Type 0 where
  pub rows : ℕ
  pub cols : ℕ
  pub cells : List Cell
  pub spells : Spells bytes put_limits rows cols cells
  pub few_rows : rows ≤ setup.rows
  pub few_cols : cols ≤ setup.cols
  pub fits : cell_total cells < 2 ^ 64
  pub batch_is : batch ≡ submission client n (matrix setup.rows setup.cols (built_of cells))

-- The text has a first fault; or it spells a matrix with more rows or more columns than the setup; or it has neither
-- fault, and its counts don't fit 64 bits.
pub data RefusesText (setup : Setting) (bytes : List ℕ) (code detail : ℕ) : Type 0 where
  faulty : (kind : MmKind) (line : ℕ) → FirstFault bytes put_limits kind line →
      code ≡ 100 + kind_number kind → detail ≡ line → RefusesText setup bytes code detail
  exceeds : (rows cols : ℕ) (cells : List Cell) → Spells bytes put_limits rows cols cells →
      (setup.rows < rows) ⊎ (setup.cols < cols) → code ≡ 20 → detail ≡ 0 → RefusesText setup bytes code detail
  too_large : (rows cols : ℕ) (cells : List Cell) → Spells bytes put_limits rows cols cells →
      rows ≤ setup.rows → cols ≤ setup.cols → 2 ^ 64 ≤ cell_total cells → code ≡ 21 → detail ≡ 0 →
      RefusesText setup bytes code detail

pub record PutsCells (setup : Setting) (client n : ℕ) (bytes : List ℕ) (batch : Submission) : Type 0 where
  pub makes : MakesBatch setup (cells_of bytes)
  pub batch_is : batch ≡ submission client n (matrix setup.rows setup.cols (built_of (cells_of bytes)))

-- There are too many cells; or the first with a fault lies outside the dimensions, or its count no longer fits.
pub data RefusesCells (setup : Setting) (bytes : List ℕ) (code detail : ℕ) : Type 0 where
  too_many : 1048576 < length (cells_of bytes) → code ≡ 23 → detail ≡ 0 → RefusesCells setup bytes code detail
  outside : (at : ℕ) → LeavesAt setup (cells_of bytes) at → code ≡ 22 → detail ≡ at →
      RefusesCells setup bytes code detail
  sum_passes : PassesSum setup (cells_of bytes) → code ≡ 21 → detail ≡ 0 → RefusesCells setup bytes code detail

abbrev pub Asks : Setting → Request → Event → Type 0
Asks setup (Put client n bytes) e =
    (batch : Submission) × (answer : Result Kept PutRefusal) × PutsBatch setup client n bytes batch ×
    (e ≡ put batch answer)
Asks setup (CellAt r c) e = (count : Option ℕ) × (r < setup.rows) × (c < setup.cols) × (e ≡ cell r c count)
Asks setup (Row r) e = (sum : RowSum) × (r < setup.rows) × (e ≡ row r sum)
Asks setup Status e = (s : Counted) × (e ≡ status s)
Asks setup Export e = (answer : Result Matrix AllocError) × (e ≡ export answer)
Asks setup Save e = (answer : Result ℕ SaveRefusal) × (e ≡ save answer)
Asks setup Stop e = ⊥
Asks setup (PutCells client n bytes) e =
    (batch : Submission) × (answer : Result Kept PutRefusal) × PutsCells setup client n bytes batch ×
    (e ≡ put batch answer)
Asks setup Stored e = (s : Counted) × (e ≡ stored s)
Asks setup (Range rows cols start most) e =
    AreBounds setup rows cols × IsCount most × (lack : AllocError) × (e ≡ export (Err lack))
Asks setup (Top by most) e = (by ≤ 1) × IsCount most × (lack : AllocError) × (e ≡ export (Err lack))
Asks setup Stats e = (answer : Result Telling AllocError) × (e ≡ stats answer)
Asks setup (Groups by shift most rows) e =
    AreRows setup rows × AreGroups by shift most × (lack : AllocError) × (e ≡ export (Err lack))
Asks setup Fold e = (answer : Result ℕ FoldRefusal) × (e ≡ fold answer)

abbrev pub Refuses : Setting → Request → List ℕ → Type 0
Refuses setup (Put client n bytes) reply =
    (code : ℕ) × (detail : ℕ) × RefusesText setup bytes code detail × (reply ≡ refused code detail)
Refuses setup (CellAt r c) reply = ((r < setup.rows) × (c < setup.cols) → ⊥) × (reply ≡ refused 41 0)
Refuses setup (Row r) reply = (r < setup.rows → ⊥) × (reply ≡ refused 41 0)
Refuses setup Status reply = ⊥
Refuses setup Export reply = ⊥
Refuses setup Save reply = ⊥
Refuses setup Stop reply = ⊥
Refuses setup (PutCells client n bytes) reply =
    (code : ℕ) × (detail : ℕ) × RefusesCells setup bytes code detail × (reply ≡ refused code detail)
Refuses setup Stored reply = ⊥
Refuses setup (Range rows cols start most) reply =
    ((AreBounds setup rows cols → ⊥) × (reply ≡ refused 41 0))
    ⊎ (AreBounds setup rows cols × (IsCount most → ⊥) × (reply ≡ refused 44 0))
Refuses setup (Top by most) reply = ((by ≤ 1) × IsCount most → ⊥) × (reply ≡ refused 44 0)
Refuses setup Stats reply = ⊥
Refuses setup Fold reply = ⊥
Refuses setup (Groups by shift most rows) reply =
    ((AreRows setup rows → ⊥) × (reply ≡ refused 41 0))
    ⊎ (AreRows setup rows × (AreGroups by shift most → ⊥) × (reply ≡ refused 44 0))

-- `gives s e t`: the keeper may answer this call in state s, and then stands in state t.
pub data Answers {S : Type 0} (gives : S → Event → S → Type 0) (setup : Setting) (r : Request) (reply : List ℕ)
    (s t : S) : Type 0 where
  asked : (e : Event) → Asks setup r e → gives s e t → reply_of e ≡ Some reply → Answers gives setup r reply s t
  unasked : Refuses setup r reply → t ≡ s → Answers gives setup r reply s t
  of_sum : (m : Matrix) → Tells setup r m reply → gives s (export (Ok m)) t → Answers gives setup r reply s t

pub data RunsOut {S : Type 0} (gives : S → Event → S → Type 0) (setup : Setting) (r : Request) (s t : S) : Type 0 where
  before_call : t ≡ s → RunsOut gives setup r s t
  in_call : (e : Event) → Asks setup r e → gives s e t → reply_of e ≡ None → RunsOut gives setup r s t

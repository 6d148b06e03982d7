-- What a reader of texts has read of its source, and what one more block adds to it.
use Rattle.std.specs.Prelude.{◌≡◌, ℕ, ◌+◌, ◌<◌, ◌≤◌, Bool, true, false, List, [], ◌∷◌, ◌++◌, length}
use Rattle.std.specs.Prelude.{Option, Some, None, Ok}
use Rattle.cells.specs.Bounds.{IsDimension, AreWithin}
use Rattle.byte_io.specs.Streams.{Answer, Calls, bytes_of_calls}
use Rattle.mm_text.specs.Faults.{Explains}
use Rattle.mm_text.specs.Stages.{state_of, Holds, BeginsWith, declared_size}
use Rattle.mm_text.specs.Texts.{Spells}
use Rattle.mm_text.specs.declared.fault.MmKind.{MmKind}
use Rattle.cells.specs.declared.cell.Cell.{Cell}
use Rattle.mm_text.specs.declared.size.Size.{Size}
use Rattle.mm_text.specs.declared.limits.TextLimits.{TextLimits}
use Rattle.mm_text.specs.declared.text_reader.TextReader.{TextReader}

-- the size line that the reader has read
unfoldable pub size_of : TextReader → Option Size
size_of reader = declared_size reader.lines.progress.stage

-- the bytes that the source gave and that aren't judged yet
abbrev pub pending : TextReader → List ℕ
pending reader = reader.buffer

-- The reader works under these limits, the source has given it these answers, and it has handed out these cells:
-- those of the whole lines that it has judged, which bear no fault.
pub record HasRead (limits : TextLimits) (answers : List Answer) (given : List Cell) (reader : TextReader) : Type
    0 where
  pub limits_are : reader.limits ≡ limits
  pub judged : List ℕ
  pub beyond : List ℕ
  pub text_is : bytes_of_calls answers ≡ judged ++ pending reader ++ beyond
  pub holds : Holds limits judged (state_of reader.lines) given
  pub room_is : length (bytes_of_calls answers) + reader.room ≡ limits.max_bytes + 1
  pub none_beyond : 0 < reader.room → beyond ≡ []
  pub one_beyond : reader.room ≡ 0 → length beyond ≡ 1
  pub reads : length answers ≤ length (bytes_of_calls answers)

-- These answers spell a text to its end, with these cells.
pub record SpelledBy (limits : TextLimits) (answers : List Answer) (given : List Cell) (reader : TextReader) : Type
    0 where
  pub size : Size
  pub size_is : size_of reader ≡ Some size
  pub spells : Spells (bytes_of_calls answers) limits size.rows size.cols given
  pub reads : length answers ≤ limits.max_bytes + 2

-- A block was handed out: the calls of the source, and the cells that were added. The text goes on.
pub record GoesOn {S : Type 0} (gives : S → Answer → S → Type 0) (source source' : S) (reader reader' : TextReader)
    (block block' : List Cell) : Type 0 where
  pub answers : List Answer
  pub calls : Calls gives source answers source'
  pub cells : List Cell
  pub block_is : block' ≡ block ++ cells
  pub has_read : (limits : TextLimits) (before : List Answer) (given : List Cell) →
      HasRead limits before given reader → HasRead limits (before ++ answers) (given ++ cells) reader'

-- The last block was handed out: the source has ended, and all of its answers spell a text with all of the cells.
pub record Ends {S : Type 0} (gives : S → Answer → S → Type 0) (at_end : S → Type 0) (source source' : S)
    (reader reader' : TextReader) (block block' : List Cell) : Type 0 where
  pub answers : List Answer
  pub calls : Calls gives source answers source'
  pub ended : at_end source'
  pub cells : List Cell
  pub block_is : block' ≡ block ++ cells
  pub spelled : (limits : TextLimits) (before : List Answer) (given : List Cell) →
      HasRead limits before given reader → SpelledBy limits (before ++ answers) (given ++ cells) reader'

-- what reading a block does: more is to come, or the text has ended
abbrev pub ReadsBlock : {S : Type 0} → (S → Answer → S → Type 0) → (S → Type 0) → S → S → TextReader → TextReader →
    List Cell → List Cell → Bool → Type 0
ReadsBlock gives at_end source source' reader reader' block block' true =
    GoesOn gives source source' reader reader' block block'
ReadsBlock gives at_end source source' reader reader' block block' false =
    Ends gives at_end source source' reader reader' block block'

-- All that was read explains this fault, and the cells that were handed out are those of its first lines.
pub record ExplainedBy (limits : TextLimits) (answers : List Answer) (given : List Cell) (ended failed : Type 0)
    (kind : MmKind) (line : ℕ) : Type 0 where
  pub explains : Explains (bytes_of_calls answers) limits ended failed kind line
  pub begins : BeginsWith limits (bytes_of_calls answers) given
  pub reads : length answers ≤ limits.max_bytes + 2

-- The reading stopped with this fault, and the block holds these cells more.
pub record Stops {S : Type 0} (gives : S → Answer → S → Type 0) (ended failed : Type 0) (source source' : S)
    (reader : TextReader) (block block' : List Cell) (kind : MmKind) (line : ℕ) : Type 0 where
  pub answers : List Answer
  pub calls : Calls gives source answers source'
  pub cells : List Cell
  pub block_is : block' ≡ block ++ cells
  pub explained : (limits : TextLimits) (before : List Answer) (given : List Cell) →
      HasRead limits before given reader → ExplainedBy limits (before ++ answers) (given ++ cells) ended failed kind
      line

-- Cells that were handed out stand behind a size line, and lie within its dimensions.
pub record SizedCells (given : List Cell) (size : Size) : Type 0 where
  pub rows : IsDimension size.rows
  pub cols : IsDimension size.cols
  pub within : AreWithin size.rows size.cols given

abbrev pub AreSized : List Cell → Option Size → Type 0
AreSized given None = given ≡ []
AreSized given (Some size) = SizedCells given size

-- Bytes that were pending were judged: they added these cells.
pub record TakesPending (reader reader' : TextReader) (block block' : List Cell) : Type 0 where
  pub cells : List Cell
  pub block_is : block' ≡ block ++ cells
  pub has_read : (limits : TextLimits) (answers : List Answer) (given : List Cell) →
      HasRead limits answers given reader → HasRead limits answers (given ++ cells) reader'
  pub size_kept : (s : Size) → size_of reader ≡ Some s → size_of reader' ≡ Some s

-- One read gave so many bytes.
pub record Fills {S : Type 0} (gives : S → Answer → S → Type 0) (source source' : S) (reader reader' : TextReader)
    (n : ℕ) : Type 0 where
  pub bytes : List ℕ
  pub gave : gives source (Ok bytes) source'
  pub size_is : length bytes ≡ n
  pub some : 0 < n → (limits : TextLimits) (answers : List Answer) (given : List Cell) →
      HasRead limits answers given reader → HasRead limits (answers ++ Ok bytes ∷ []) given reader'
  pub none : n ≡ 0 → (limits : TextLimits) (answers : List Answer) (given : List Cell) →
      HasRead limits answers given reader → HasRead limits answers given reader'

-- The text has ended: it spells the cells that were given before and these.
pub record Finishes (reader reader' : TextReader) (block block' : List Cell) : Type 0 where
  pub cells : List Cell
  pub block_is : block' ≡ block ++ cells
  pub size : Size
  pub size_is : size_of reader' ≡ Some size
  pub spells : (limits : TextLimits) (answers : List Answer) (given : List Cell) →
      HasRead limits answers given reader → Spells (bytes_of_calls answers) limits size.rows size.cols (given ++ cells)
  pub size_kept : (s : Size) → size_of reader ≡ Some s → size_of reader' ≡ Some s

-- What was read shows this fault.
abbrev pub ShowsRead : TextReader → Type 0 → Type 0 → MmKind → ℕ → Type 0
ShowsRead reader ended failed kind line = (limits : TextLimits) (answers : List Answer) (given : List Cell) →
    HasRead limits answers given reader → Explains (bytes_of_calls answers) limits ended failed kind line

-- Cells were added to the block before a fault: with those before they are the cells of the text's first lines.
pub record AddsFirst (reader : TextReader) (block block' : List Cell) : Type 0 where
  pub cells : List Cell
  pub block_is : block' ≡ block ++ cells
  pub begins : (limits : TextLimits) (answers : List Answer) (given : List Cell) →
      HasRead limits answers given reader → BeginsWith limits (bytes_of_calls answers) (given ++ cells)

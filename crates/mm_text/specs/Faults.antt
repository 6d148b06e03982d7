-- What a fault of a reading says of the bytes that were read.
use Rattle.std.specs.Prelude.{◌≡◌, ℕ, ◌+◌, ◌<◌, ◌≤◌, List, [], ◌∷◌, ◌++◌, length, take}
use Rattle.mm_text.specs.Lines.{line_at, lines_of, bytes_of}
use Rattle.mm_text.specs.Texts.{FirstFault, NoFaultWithin, IsGoodEntry}
use Rattle.mm_text.specs.Stages.{LineState, Holds}
use Rattle.cells.specs.declared.cell.Cell.{Cell}
use Rattle.mm_text.specs.declared.limits.TextLimits.{TextLimits}
use Rattle.mm_text.specs.declared.fault.MmKind.{MmKind}
use Rattle.mm_text.specs.declared.fault.MmKind.TheVariants.{Read, Memory}
use Rattle.byte_io.specs.Streams.{Answer}

-- What was read has this first fault; one that shows at the text's end is told only where the source had ended.
pub record IsTold (text : List ℕ) (limits : TextLimits) (ended : Type 0) (kind : MmKind) (line : ℕ) : Type 0 where
  pub first : FirstFault text limits kind line
  pub at_end : length text < first.place → ended

-- The source failed, and what was read before bears no fault but what shows at the text's end.
pub record IsReadFault (text : List ℕ) (limits : TextLimits) (failed : Type 0) (line : ℕ) : Type 0 where
  pub failed_now : failed
  pub none_within : NoFaultWithin text limits
  pub line_is : line ≡ line_at text (length text)

-- Memory ran out for the cells of this line, a good entry that was read to its end: its LF, or the text's end. Its
-- place
-- is behind the line, whose LF isn't counted, and up to there the text bears no fault.
pub record IsMemoryFault (text : List ℕ) (limits : TextLimits) (ended : Type 0) (line : ℕ) : Type 0 where
  pub before : List (List ℕ)
  pub this : List ℕ
  pub after : List (List ℕ)
  pub lines : lines_of text ≡ before ++ this ∷ after
  pub entry : IsGoodEntry limits before this
  pub place : ℕ
  pub place_is : place ≡ bytes_of before + length this
  pub none_within : NoFaultWithin (take place text) limits
  pub at_end : length text < place + 1 → ended
  pub line_is : line ≡ length before + 1

-- what a fault of a reading says of the bytes that were read
abbrev pub Explains : List ℕ → TextLimits → Type 0 → Type 0 → MmKind → ℕ → Type 0
Explains text limits ended failed Read line = IsReadFault text limits failed line
Explains text limits ended failed Memory line = IsMemoryFault text limits ended line
Explains text limits ended failed kind line = IsTold text limits ended kind line

-- There was no memory for the reader: nothing was read.
pub record IsUnread (answers : List Answer) (kind : MmKind) (line : ℕ) : Type 0 where
  pub none : answers ≡ []
  pub kind_is : kind ≡ Memory
  pub line_is : line ≡ 1

-- These bytes show a fault, whatever text within the limit they continue and whatever follows them.
abbrev pub Shows : TextLimits → List ℕ → LineState → MmKind → ℕ → Type 0
Shows limits bytes old kind line = (text more : List ℕ) (given : List Cell) →
    length text + length bytes ≤ limits.max_bytes →
    Holds limits text old given → Explains ((text ++ bytes) ++ more) limits ⊥ ⊥ kind line

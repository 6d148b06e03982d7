-- How far a text was summed: what the source gave, what the reader handed out, and what of that was added to the sum of
-- the texts before it.
use Rattle.std.specs.Prelude.{◌≡◌, ℕ, Bool, true, false, List, ◌++◌, Option, Some, None, Result}
use Rattle.byte_io.specs.Streams.{Calls}
use Rattle.byte_io.specs.declared.fault.DeviceFault.{DeviceFault}
use Rattle.cells.specs.declared.cell.Cell.{Cell}
use Rattle.mm_text.specs.Readings.{size_of, HasRead, SizedCells}
use Rattle.mm_text.specs.declared.text_reader.TextReader.{TextReader}
use Rattle.mm_text.specs.declared.size.Size.{Size}
use Rattle.mm_sum.specs.Sum.{sum_limits, ReadsText, StopsText}
use Rattle.mm_sum.specs.Several.{IsUnsummedBehind}
use Rattle.mm_sum.specs.Running.{IsSumOf}
use Rattle.mm_sum.specs.declared.running_sum.RunningSum.{RunningSum}
use Rattle.mm_sum.specs.declared.fault.SumFault.{SumFault}
use Rattle.mm_sum.specs.declared.fault.SumFault.TheVariants.{BadCuts, Text, SumTooLarge, Memory, Output}

-- The reader has read a size line with dimensions from 1 to 2^60, and these cells lie within them.
pub record IsSized (reader : TextReader) (cells : List Cell) : Type 0 where
  pub size : Size
  pub size_is : size_of reader ≡ Some size
  pub sized : SizedCells cells size

module _ {S : Type 0} (gives : S → Result (List ℕ) DeviceFault → S → Type 0)
    (at_end : S → Type 0) (failures : S → ℕ) where
  -- Between s and t no call has failed, and the reader has handed out these cells.
  pub record HandsOut (s t : S) (reader : TextReader) (cells : List Cell) : Type 0 where
    pub answers : List (Result (List ℕ) DeviceFault)
    pub calls : Calls gives s answers t
    pub none_failed : failures t ≡ failures s
    pub has_read : HasRead sum_limits answers cells reader

  -- Between s and t the reader has handed out the first cells of a text with this size line. More may come, or these
  -- are all.
  abbrev pub Begins : S → S → TextReader → Size → List Cell → Bool → Type 0
  Begins s t reader size cells true = HandsOut s t reader cells × (size_of reader ≡ Some size)
  Begins s t reader size cells false = ReadsText gives at_end failures s t size.rows size.cols cells

  -- Between s and t the reader has handed out some cells behind a size line, and this is their sum with these of the
  -- texts before.
  pub record IsSumming (earlier : List Cell) (s t : S) (reader : TextReader) (size : Size) (sum : RunningSum) : Type
      0 where
    pub cells : List Cell
    pub hands_out : HandsOut s t reader cells
    pub size_is : size_of reader ≡ Some size
    pub sum_is : IsSumOf size.rows size.cols (earlier ++ cells) sum

  -- Between s and t a text was read to its end, and this is the sum of its cells with these of the texts before.
  pub record HasSummed (earlier : List Cell) (s t : S) (size : Size) (sum : RunningSum) : Type 0 where
    pub cells : List Cell
    pub reads_text : ReadsText gives at_end failures s t size.rows size.cols cells
    pub sum_is : IsSumOf size.rows size.cols (earlier ++ cells) sum

  -- a text was summed as far as it was read, which may be to its end
  abbrev pub IsSummed : List Cell → S → S → TextReader → Size → RunningSum → Bool → Type 0
  IsSummed earlier s t reader size sum true = IsSumming earlier s t reader size sum
  IsSummed earlier s t reader size sum false = HasSummed earlier s t size sum

  -- what a fault says of the text that was read between s and t, behind texts with these cells
  abbrev pub Excuses : List Cell → S → S → SumFault → Type 0
  Excuses earlier s t (Text fault) = StopsText gives at_end failures s t fault.kind fault.line
  Excuses earlier s t Memory = IsUnsummedBehind gives at_end failures earlier s t
  Excuses earlier s t BadCuts = ⊥
  Excuses earlier s t SumTooLarge = ⊥
  Excuses earlier s t (Output fault) = ⊥

  -- A text was read to its end: it has other dimensions than these, or its cells were added to the sum of others.
  abbrev pub AddsText : List Cell → S → S → Size → Option RunningSum → Type 0
  AddsText earlier s t size None = (rows cols : ℕ) × (list : List Cell)
      × ReadsText gives at_end failures s t rows cols list × ((rows ≡ size.rows) × (cols ≡ size.cols) → ⊥)
  AddsText earlier s t size (Some sum) = (list : List Cell)
      × ReadsText gives at_end failures s t size.rows size.cols list
      × IsSumOf size.rows size.cols (earlier ++ list) sum

-- One text more among several: what its opening and its reading do to the sum of those before it.
use Rattle.std.specs.Prelude.{◌≡◌, ◌⊎◌, ℕ, ◌<◌, List, ◌++◌, length, Result, Ok, Err}
use Rattle.byte_io.specs.declared.fault.DeviceFault.{DeviceFault}
use Rattle.cells.specs.declared.cell.Cell.{Cell}
use Rattle.mm_text.specs.declared.size.Size.{Size}
use Rattle.mm_sum.specs.Running.{IsSumOf}
use Rattle.mm_sum.specs.Several.{joined, IsUnsummedBehind, ReadsTexts, StaysClosed, StopsWithin, Differs, AreUnsummed}
use Rattle.mm_sum.specs.Sum.{ReadsText, StopsText}
use Rattle.mm_sum.specs.declared.running_sum.RunningSum.{RunningSum}
use Rattle.mm_sum.specs.declared.fault.OpenFault.{OpenFault}
use Rattle.mm_sum.specs.declared.fault.OpenFault.TheVariants as opening
use Rattle.mm_sum.specs.declared.fault.TextsFault.{TextsFault}
use Rattle.mm_sum.specs.declared.fault.TextsFault.TheVariants as fault

-- a text wasn't opened
abbrev pub IsOpening : {S : Type 0} → (S → Result (Unit {0}) OpenFault → S → Type 0) → S → S → ℕ → TextsFault → Type 0
IsOpening opens s t text (fault.File at told) = (at ≡ text) × opens s (Err told) t
IsOpening opens s t text fault.Memory = opens s (Err opening.Memory) t
IsOpening opens s t text _ = ⊥

module _ {S : Type 0} (gives : S → Result (List ℕ) DeviceFault → S → Type 0)
    (at_end : S → Type 0) (failures : S → ℕ) (opens : S → Result (Unit {0}) OpenFault → S → Type 0) where
  -- A text was opened and read to its end, has these dimensions, and its cells were added to the sum of others.
  pub record AddsNext (earlier : List Cell) (s t : S) (size : Size) (sum : RunningSum) : Type 0 where
    pub opened : S
    pub opens_it : opens s (Ok tt) opened
    pub list : List Cell
    pub reads_it : ReadsText gives at_end failures opened t size.rows size.cols list
    pub sum_is : IsSumOf size.rows size.cols (earlier ++ list) sum

  -- what a fault says of the text of this number, behind texts of these dimensions and with these cells
  abbrev pub TellsNext : List Cell → S → S → Size → ℕ → TextsFault → Type 0
  TellsNext earlier s t size text (fault.File at told) = (at ≡ text) × opens s (Err told) t
  TellsNext earlier s t size text (fault.Text at told) = (at ≡ text) × ((opened : S) × opens s (Ok tt) opened
      × StopsText gives at_end failures opened t told.kind told.line)
  TellsNext earlier s t size text (fault.DimensionsDiffer at) = (at ≡ text) × (0 < text)
      × ((opened : S) × opens s (Ok tt) opened
      × ((rows cols : ℕ) × (list : List Cell) × ReadsText gives at_end failures opened t rows cols list
      × ((rows ≡ size.rows) × (cols ≡ size.cols) → ⊥)))
  TellsNext earlier s t size text fault.Memory = ((opened : S) × opens s (Ok tt) opened
      × IsUnsummedBehind gives at_end failures earlier opened t) ⊎ opens s (Err opening.Memory) t
  TellsNext earlier s t size text fault.BadCuts = ⊥
  TellsNext earlier s t size text fault.SumTooLarge = ⊥
  TellsNext earlier s t size text (fault.Output told) = ⊥

  -- So many texts were read between s and t, and this is the sum of all of their cells.
  pub record HaveSummed (s t : S) (count : ℕ) (sum : RunningSum) : Type 0 where
    pub rows : ℕ
    pub cols : ℕ
    pub lists : List (List Cell)
    pub count_is : length lists ≡ count
    pub reads : ReadsTexts gives at_end failures opens s t rows cols lists
    pub sum_is : IsSumOf rows cols (joined lists) sum

  -- what a fault says of texts that were read between s and t
  abbrev pub TellsRead : S → S → TextsFault → Type 0
  TellsRead s t (fault.File text told) = StaysClosed gives at_end failures opens s t text told
  TellsRead s t (fault.Text text told) = StopsWithin gives at_end failures opens s t text told.kind told.line
  TellsRead s t (fault.DimensionsDiffer text) = Differs gives at_end failures opens s t text
  TellsRead s t fault.Memory = AreUnsummed gives at_end failures opens s t
  TellsRead s t fault.SumTooLarge = ⊥
  TellsRead s t fault.BadCuts = ⊥
  TellsRead s t (fault.Output told) = ⊥

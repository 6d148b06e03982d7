-- What `sum` makes of several texts: the sum of their lists, one behind the other.
use Rattle.std.specs.Prelude.{◌≡◌, ◌⊎◌, ℕ, ◌<◌, ◌≤◌, ◌^◌, List, [], ◌∷◌, ◌++◌, length, Result, Ok, Err}
use Rattle.byte_io.specs.declared.fault.DeviceFault.{DeviceFault}
use Rattle.cells.specs.declared.cell.Cell.{Cell}
use Rattle.mm_text.specs.declared.fault.MmKind.{MmKind}
use Rattle.hyper_matrix.specs.Cells.{cell_total}
use Rattle.mm_sum.specs.Sum.{ReadsText, StopsText, IsUnsummed}
use Rattle.mm_sum.specs.declared.fault.OpenFault.{OpenFault}
use Rattle.mm_sum.specs.declared.fault.OpenFault.TheVariants as opening
use Rattle.mm_sum.specs.declared.fault.TextsFault.{TextsFault}
use Rattle.mm_sum.specs.declared.fault.TextsFault.TheVariants as fault

-- lists of cells, one behind the other
abbrev pub joined : List (List Cell) → List Cell
joined [] = []
joined (list ∷ lists) = list ++ joined lists

module _ {S : Type 0} (gives : S → Result (List ℕ) DeviceFault → S → Type 0)
    (at_end : S → Type 0) (failures : S → ℕ) where
  -- Memory ran out in a text, as for one alone. The counts up to the place fit 64 bits, with these of the texts before.
  pub record IsUnsummedBehind (earlier : List Cell) (s t : S) : Type 0 where
    pub unsummed : IsUnsummed gives at_end failures s t
    pub fits : cell_total (earlier ++ unsummed.cells) < 2 ^ 64

-- A source's calls, as for one text, and what the opening of its next text may answer.
module _ {S : Type 0} (gives : S → Result (List ℕ) DeviceFault → S → Type 0)
    (at_end : S → Type 0) (failures : S → ℕ) (opens : S → Result (Unit {0}) OpenFault → S → Type 0) where
  -- Between s and t texts were opened, one behind the other, and each was read to its end. They spell these lists, all
  -- in the same dimensions.
  abbrev pub ReadsTexts : S → S → ℕ → ℕ → List (List Cell) → Type 0
  ReadsTexts s t rows cols [] = s ≡ t
  ReadsTexts s t rows cols (list ∷ lists) = (opened : S) × (ended : S) × opens s (Ok tt) opened
      × ReadsText gives at_end failures opened ended rows cols list × ReadsTexts ended t rows cols lists

  -- So many texts were read between s and t, and the counts of all of their lists fit 64 bits together.
  pub record SumsTexts (s t : S) (count rows cols : ℕ) (lists : List (List Cell)) : Type 0 where
    pub count_is : length lists ≡ count
    pub reads : ReadsTexts s t rows cols lists
    pub fits : cell_total (joined lists) < 2 ^ 64

  -- So many texts were read between s and t, and the counts of their lists don't.
  pub record TextsPass (s t : S) (count : ℕ) : Type 0 where
    pub rows : ℕ
    pub cols : ℕ
    pub lists : List (List Cell)
    pub count_is : length lists ≡ count
    pub reads : ReadsTexts s t rows cols lists
    pub passes : 2 ^ 64 ≤ cell_total (joined lists)

  -- The texts before this one, counted from 0, were read between s and t.
  pub record ReadsBefore (s t : S) (text : ℕ) : Type 0 where
    pub rows : ℕ
    pub cols : ℕ
    pub lists : List (List Cell)
    pub count_is : length lists ≡ text
    pub reads : ReadsTexts s t rows cols lists

  -- This text couldn't be opened.
  pub record StaysClosed (s t : S) (text : ℕ) (fault : OpenFault) : Type 0 where
    pub ended : S
    pub before : ReadsBefore s ended text
    pub refused : opens ended (Err fault) t

  -- This text was opened and read up to a fault of this kind and line.
  pub record StopsWithin (s t : S) (text : ℕ) (kind : MmKind) (line : ℕ) : Type 0 where
    pub ended : S
    pub opened : S
    pub before : ReadsBefore s ended text
    pub opens_it : opens ended (Ok tt) opened
    pub stops : StopsText gives at_end failures opened t kind line

  -- This text was opened and read to its end, and has other dimensions than the texts before it.
  pub record Differs (s t : S) (text : ℕ) : Type 0 where
    pub ended : S
    pub opened : S
    pub before : ReadsBefore s ended text
    pub some : 0 < text
    pub opens_it : opens ended (Ok tt) opened
    pub rows : ℕ
    pub cols : ℕ
    pub list : List Cell
    pub reads_it : ReadsText gives at_end failures opened t rows cols list
    pub differs : (rows ≡ before.rows) × (cols ≡ before.cols) → ⊥

  -- Memory ran out behind some texts: before the next was opened, or behind the last; in the next; or for its opening.
  -- But for an opening, the counts up to the place fit 64 bits together.
  pub record AreUnsummed (s t : S) : Type 0 where
    pub rows : ℕ
    pub cols : ℕ
    pub lists : List (List Cell)
    pub ended : S
    pub reads : ReadsTexts s ended rows cols lists
    pub place : ((ended ≡ t) × (cell_total (joined lists) < 2 ^ 64))
        ⊎ (((opened : S) × opens ended (Ok tt) opened × IsUnsummedBehind gives at_end failures (joined lists) opened t)
        ⊎ opens ended (Err opening.Memory) t)

  -- what a fault says of so many texts between s and t
  abbrev pub Tells : S → S → ℕ → TextsFault → Type 0
  Tells s t count (fault.File text told) = StaysClosed s t text told
  Tells s t count (fault.Text text told) = StopsWithin s t text told.kind told.line
  Tells s t count (fault.DimensionsDiffer text) = Differs s t text
  Tells s t count fault.SumTooLarge = TextsPass s t count
  Tells s t count fault.Memory = AreUnsummed s t
  Tells s t count fault.BadCuts = s ≡ t
  Tells s t count (fault.Output told) = Unit {0}

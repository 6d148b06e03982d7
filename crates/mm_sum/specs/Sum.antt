-- What `sum` makes of a text: the cells of its list, each with the sum of its counts, by row and then by column.
use Rattle.std.specs.Prelude.{◌≡◌, ◌≢◌, ◌⊎◌, ℕ, ◌+◌, ◌<◌, ◌≤◌, ◌^◌, List, ◌++◌, length, Result}
use Rattle.byte_io.specs.Streams.{Calls, bytes_of_calls}
use Rattle.mm_text.specs.Faults.{Explains}
use Rattle.mm_text.specs.Stages.{LineState, Holds}
use Rattle.mm_text.specs.Texts.{Spells, NoFaultWithin}
use Rattle.cells.specs.declared.cell.Cell.{Cell}
use Rattle.byte_io.specs.declared.fault.DeviceFault.{DeviceFault}
use Rattle.mm_text.specs.declared.fault.MmKind.{MmKind}
use Rattle.mm_text.specs.declared.fault.MmKind.TheVariants.{Read, Memory}
use Rattle.mm_text.specs.declared.limits.TextLimits.{TextLimits}
use Rattle.hyper_matrix.specs.Matrix.{matrix}
use Rattle.hyper_matrix.specs.Cells.{built_of, cell_total}
use Rattle.mm_laws.specs.MatrixText.{matrix_text}

-- 2^40 bytes, and as many declared entries
abbrev pub sum_limits : TextLimits
sum_limits = record { max_bytes = 2 ^ 40; max_entries = 2 ^ 40 }

-- the canonical text of the matrix that a list of cells builds
abbrev pub sum_text : ℕ → ℕ → List Cell → List ℕ
sum_text rows cols cells = matrix_text (matrix rows cols (built_of cells))

-- These cells are those of the text's whole lines, which bear no fault, or of all of its lines where it spells a list.
abbrev pub AreItsCells : List ℕ → List Cell → Type 0
AreItsCells text cells =
    ((now : LineState) × Holds sum_limits text now cells)
    ⊎ ((rows : ℕ) × (cols : ℕ) × Spells text sum_limits rows cols cells)

-- A source's calls, with the answers that they may give, whether it has ended, and how many of them have failed.
module _ {S : Type 0} (gives : S → Result (List ℕ) DeviceFault → S → Type 0)
    (at_end : S → Type 0) (failures : S → ℕ) where
  -- These calls read a text to the source's end, none failed, and the text spells this list of cells.
  pub record ReadsText (s t : S) (rows cols : ℕ) (cells : List Cell) : Type 0 where
    pub answers : List (Result (List ℕ) DeviceFault)
    pub calls : Calls gives s answers t
    pub reads : length answers ≤ 2 ^ 40 + 2
    pub ended : at_end t
    pub none_failed : failures t ≡ failures s
    pub spells : Spells (bytes_of_calls answers) sum_limits rows cols cells

  -- The text that these calls read spells a list of cells whose counts fit 64 bits together.
  pub record SumsText (s t : S) (rows cols : ℕ) (cells : List Cell) : Type 0 where
    pub reads_text : ReadsText s t rows cols cells
    pub fits : cell_total cells < 2 ^ 64

  -- The text that these calls read spells a list of cells whose counts do not.
  pub record SumPasses (s t : S) : Type 0 where
    pub rows : ℕ
    pub cols : ℕ
    pub cells : List Cell
    pub reads_text : ReadsText s t rows cols cells
    pub passes : 2 ^ 64 ≤ cell_total cells

  -- These calls read a text up to a fault of this kind and line: the text's first, or a read that failed.
  pub record StopsText (s t : S) (kind : MmKind) (line : ℕ) : Type 0 where
    pub answers : List (Result (List ℕ) DeviceFault)
    pub calls : Calls gives s answers t
    pub reads : length answers ≤ 2 ^ 40 + 2
    pub explains : Explains (bytes_of_calls answers) sum_limits (at_end t) (failures t ≡ failures s + 1) kind line
    pub no_memory_fault : kind ≢ Memory
    pub read_alone_fails : kind ≢ Read → failures t ≡ failures s

  -- These calls read a text up to a place where memory ran out, or at most a piece of 65,536 bytes and one byte beyond
  -- it, and none failed. What stands before the place bears no fault, and its cells' counts fit 64 bits together.
  pub record IsUnsummed (s t : S) : Type 0 where
    pub answers : List (Result (List ℕ) DeviceFault)
    pub calls : Calls gives s answers t
    pub reads : length answers ≤ 2 ^ 40 + 2
    pub none_failed : failures t ≡ failures s
    pub before : List ℕ
    pub behind : List ℕ
    pub text_is : bytes_of_calls answers ≡ before ++ behind
    pub near : length behind ≤ 65537
    pub none_within : NoFaultWithin before sum_limits
    pub cells : List Cell
    pub cells_are : AreItsCells before cells
    pub fits : cell_total cells < 2 ^ 64

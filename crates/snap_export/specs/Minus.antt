-- What `export --minus` makes of two snapshots: what the later one has more.
--     entry_at a i        the entry of the batch at an index, counted from 0 over all, folded or not
--     Begins b a          the entries of b are the first of a
--     IsFirstOther a b i  at this index b has an entry, and a has another one or none; before it they have the same
--     IsLater a b         a goes on from b: not of two known books or windows that differ, of the same dimensions, and
--                         the entries of b are the first of a
--     followed_by a more  the list a with more batches at its end
--     sum_in a            the sum of all its batches
--     IsMore a b x        x is what has to be added to the sum of b so that the sum of a comes out
--     more_text a x       the canonical text of it, in the dimensions of a
--     HaveBoth loads s t a b
--                         the first load after s has answered a and the next one b, which leaves t
--     TellsNew, TellsOld  what a fault says of the first load, and of the next
--     IsMisfit a b fault  what a fault says of two that don't go on, in this order: other books, other dimensions,
--                         other entries
--     TellsMore loads s t fault
--                         what a fault says: each only where it is so, and where none that comes before it is
use Rattle.std.specs.Prelude.{◌≡◌, ◌≢◌, ◌⊎◌, ℕ, ◌<◌, List, ◌++◌, slice_get, Option, Result, Err}
use Rattle.cells.specs.Bounds.{IsDimension, AreWithin}
use Rattle.cells.specs.Order.{Rise}
use Rattle.cells.specs.declared.cell.Cell.{Cell}
use Rattle.hyper_matrix.specs.Cells.{built_of}
use Rattle.hyper_matrix.specs.Counts.{Counts}
use Rattle.hyper_matrix.specs.Matrix.{matrix}
use Rattle.matrix_difference.specs.Difference.{IsDifference, IsFirstFall}
use Rattle.matrix_difference.specs.declared.difference.MinusFault.{MinusFault}
use Rattle.matrix_difference.specs.declared.difference.MinusFault.TheVariants as minus
use Rattle.batch_store.specs.declared.verdict.Entry.{Entry}
use Rattle.batch_store.specs.Accepted.{Accepted, accepted, entries_in, count_in, summed}
use Rattle.batch_store.specs.Batches.{Submission}
use Rattle.batch_store.specs.Books.{accepted_in}
use Rattle.mm_laws.specs.MatrixText.{matrix_text}
use Rattle.snap_file.specs.Origins.{IsOtherBook}
use Rattle.snap_file.specs.Snapshots.{Saved}
use Rattle.snap_report.specs.Kept.{HasLoaded, most_bytes}
use Rattle.snap_report.specs.Logged.{IsReadFault}
use Rattle.snap_report.specs.declared.fault.CheckFault.{CheckFault}
use Rattle.snap_report.specs.declared.fault.CheckFault.TheVariants as check
use Rattle.snap_export.specs.declared.minus_fault.DifferenceFault.{DifferenceFault}
use Rattle.snap_export.specs.declared.minus_fault.DifferenceFault.TheVariants as fault

abbrev pub entry_at : Accepted → ℕ → Option Entry
entry_at a i = slice_get (entries_in a) i

abbrev pub Begins : Accepted → Accepted → Type 0
Begins b a = (i : ℕ) → i < count_in b → entry_at a i ≡ entry_at b i

pub record IsFirstOther (a b : Accepted) (at : ℕ) : Type 0 where
  pub within : at < count_in b
  pub other : entry_at a at ≢ entry_at b at
  pub first : (i : ℕ) → i < at → entry_at a i ≡ entry_at b i

pub record IsOneBook (a b : Saved) : Type 0 where
  pub same : IsOtherBook a.origin.identity b.origin.identity → ⊥

pub record HaveSameDims (a b : Saved) : Type 0 where
  pub rows : a.setup.rows ≡ b.setup.rows
  pub cols : a.setup.cols ≡ b.setup.cols

pub record IsLater (a b : Saved) : Type 0 where
  pub book : IsOneBook a b
  pub dims : HaveSameDims a b
  pub begins : Begins (accepted_in b.list) (accepted_in a.list)

abbrev pub followed_by : Accepted → List Submission → Accepted
followed_by a more = accepted a.base a.folded (a.list ++ more)

abbrev pub sum_in : Saved → Counts
sum_in a = summed (accepted_in a.list)

abbrev pub IsMore : Saved → Saved → Counts → Type 0
IsMore a b x = IsDifference (sum_in a) (sum_in b) x

abbrev pub more_text : Saved → Counts → List ℕ
more_text a x = matrix_text (matrix a.setup.rows a.setup.cols x)

-- what a fault says of two snapshots where the second doesn't begin the first
abbrev pub IsMisfit : Saved → Saved → DifferenceFault → Type 0
IsMisfit a b fault.OtherBook = IsOtherBook a.origin.identity b.origin.identity
IsMisfit a b fault.DimensionsDiffer = IsOneBook a b × (HaveSameDims a b → ⊥)
IsMisfit a b (fault.NotBefore at) =
    IsOneBook a b × HaveSameDims a b × IsFirstOther (accepted_in a.list) (accepted_in b.list) at
IsMisfit a b _ = ⊥

-- the fault that reports one of the walk over both sums
abbrev pub fault_of : MinusFault → DifferenceFault
fault_of (minus.Falls row col) = fault.Falls row col
fault_of minus.Memory = fault.Memory

-- what a fault says of two snapshots where the second begins the first
abbrev pub IsUnsubtracted : Saved → Saved → DifferenceFault → Type 0
IsUnsubtracted a b (fault.Falls row col) = IsFirstFall (sum_in a) (sum_in b) (row, col)
IsUnsubtracted a b fault.Memory = Unit {0}
IsUnsubtracted a b _ = ⊥

module _ {F : Type 0} (loads : F → ℕ → Result Saved CheckFault → F → Type 0) where
  pub record HaveBoth (s t : F) (a b : Saved) : Type 0 where
    pub middle : F
    pub new : HasLoaded loads s middle a
    pub old : HasLoaded loads middle t b

  abbrev pub TellsNew : F → F → DifferenceFault → Type 0
  TellsNew s t (fault.New told) = IsReadFault told × loads s most_bytes (Err told) t
  TellsNew s t fault.Memory = loads s most_bytes (Err check.Memory) t
  TellsNew s t _ = ⊥

  abbrev pub TellsOld : F → F → DifferenceFault → Type 0
  TellsOld s t (fault.Old told) = IsReadFault told × loads s most_bytes (Err told) t
  TellsOld s t fault.Memory = loads s most_bytes (Err check.Memory) t
  TellsOld s t _ = ⊥

  -- the first load was answered, and the fault says this of the next
  abbrev pub TellsSecond : F → F → DifferenceFault → Type 0
  TellsSecond s t told = (a : Saved) × (middle : F) × HasLoaded loads s middle a × TellsOld middle t told

  -- both were answered, and the fault says this of the two
  abbrev pub TellsBoth : F → F → DifferenceFault → Type 0
  TellsBoth s t told = (a b : Saved) × HaveBoth s t a b × (IsMisfit a b told ⊎ (IsLater a b × IsUnsubtracted a b told))

  abbrev pub TellsMore : F → F → DifferenceFault → Type 0
  TellsMore s t told = TellsNew s t told ⊎ (TellsSecond s t told ⊎ TellsBoth s t told)

  abbrev pub TellsDifference : F → F → DifferenceFault → Type 0
  TellsDifference s t (fault.Output told) = Unit {0}
  TellsDifference s t (fault.Save told) = Unit {0}
  TellsDifference s t told = TellsMore s t told

-- the only fault that may leave something written
abbrev pub LeavesMore : DifferenceFault → Type 0
LeavesMore (fault.Output told) = Unit {0}
LeavesMore _ = ⊥

-- the only fault that may change a folder
abbrev pub LeavesFolder : DifferenceFault → Type 0
LeavesFolder (fault.Save told) = Unit {0}
LeavesFolder _ = ⊥

-- cells in order, within the dimensions of a, that build what a has more than b
pub record HasMore (a b : Saved) (rows cols : ℕ) (cells : List Cell) : Type 0 where
  pub rows_are : rows ≡ a.setup.rows
  pub cols_are : cols ≡ a.setup.cols
  pub is_rows : IsDimension rows
  pub is_cols : IsDimension cols
  pub rises : Rise cells
  pub within : AreWithin rows cols cells
  pub is_more : IsMore a b (built_of cells)

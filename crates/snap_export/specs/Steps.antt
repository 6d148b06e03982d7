-- One snapshot more among several: what its load does to the sum of those before it.
use Rattle.std.specs.Prelude.{◌≡◌, ◌⊎◌, ℕ, ◌<◌, ◌≤◌, ◌^◌, List, [], ◌∷◌, ◌++◌, length, Option, Some, None, Result, Err}
use Rattle.hyper_matrix.specs.Counts.{total}
use Rattle.hyper_matrix.specs.Matrix.{Matrix, matrix}
use Rattle.snap_file.specs.Snapshots.{Saved}
use Rattle.snap_report.specs.Kept.{HasLoaded, most_bytes}
use Rattle.snap_report.specs.Logged.{IsReadFault}
use Rattle.snap_report.specs.declared.fault.CheckFault.{CheckFault}
use Rattle.snap_report.specs.declared.fault.CheckFault.TheVariants as check
use Rattle.snap_export.specs.Several.{added_up, HaveLoaded, IsRefused, Differs, AreUnsummed}
use Rattle.snap_export.specs.declared.fault.ExportFault.{ExportFault}
use Rattle.snap_export.specs.declared.fault.ExportFault.TheVariants as fault

-- the sum is the matrix that the snapshots add up to, in these dimensions, or their counts pass 64 bits
abbrev pub IsSumOf : ℕ → ℕ → List Saved → Option Matrix → Type 0
IsSumOf rows cols xs (Some m) = m ≡ matrix rows cols (added_up xs)
IsSumOf rows cols xs None = 2 ^ 64 ≤ total (added_up xs)

-- the sum was grown by a snapshot
abbrev pub Grows : Option Matrix → Saved → Option Matrix → Type 0
Grows sum x next = (rows cols : ℕ) (xs : List Saved) → IsSumOf rows cols xs sum → IsSumOf rows cols (xs ++ x ∷ []) next

-- the counts of a snapshot fit 64 bits behind those of the sum
abbrev pub FitsBehind : Option Matrix → Saved → Type 0
FitsBehind sum x = (rows cols : ℕ) (xs : List Saved) → IsSumOf rows cols xs sum →
    total (added_up (xs ++ x ∷ [])) < 2 ^ 64

module _ {F : Type 0} (loads : F → ℕ → Result Saved CheckFault → F → Type 0) where
  -- what is told of a load of the file of this number
  abbrev pub IsUnread : F → F → ℕ → ExportFault → Type 0
  IsUnread s t number (fault.File at told) = (at ≡ number) × IsReadFault told × loads s most_bytes (Err told) t
  IsUnread s t number fault.Memory = loads s most_bytes (Err check.Memory) t
  IsUnread s t number _ = ⊥

  -- a snapshot of these dimensions was loaded, and added to the sum of others
  pub record AddsNext (earlier : List Saved) (s t : F) (rows cols : ℕ) (sum : Option Matrix) : Type 0 where
    pub x : Saved
    pub loaded : HasLoaded loads s t x
    pub rows_are : x.setup.rows ≡ rows
    pub cols_are : x.setup.cols ≡ cols
    pub sum_is : IsSumOf rows cols (earlier ++ x ∷ []) sum

  -- a snapshot of these dimensions was loaded, and its counts fit behind those of others
  pub record FitsNext (earlier : List Saved) (s t : F) (rows cols : ℕ) : Type 0 where
    pub x : Saved
    pub loaded : HasLoaded loads s t x
    pub rows_are : x.setup.rows ≡ rows
    pub cols_are : x.setup.cols ≡ cols
    pub fits : total (added_up (earlier ++ x ∷ [])) < 2 ^ 64

  -- what a fault says of the file of this number, behind snapshots of these dimensions
  abbrev pub TellsNext : List Saved → F → F → ℕ → ℕ → ℕ → ExportFault → Type 0
  TellsNext earlier s t rows cols number (fault.File at told) =
      (at ≡ number) × IsReadFault told × loads s most_bytes (Err told) t
  TellsNext earlier s t rows cols number (fault.DimensionsDiffer at) = (at ≡ number)
      × ((x : Saved) × HasLoaded loads s t x × ((x.setup.rows ≡ rows) × (x.setup.cols ≡ cols) → ⊥))
  TellsNext earlier s t rows cols number fault.Memory =
      loads s most_bytes (Err check.Memory) t ⊎ FitsNext earlier s t rows cols
  TellsNext earlier s t rows cols number fault.SumTooLarge = ⊥
  TellsNext earlier s t rows cols number (fault.Output told) = ⊥
  TellsNext earlier s t rows cols number (fault.Save told) = ⊥

  -- so many snapshots were loaded between s and t, and this is the sum of all
  pub record HaveSummed (s t : F) (count rows cols : ℕ) (sum : Option Matrix) : Type 0 where
    pub xs : List Saved
    pub count_is : length xs ≡ count
    pub loaded : HaveLoaded loads s t rows cols xs
    pub sum_is : IsSumOf rows cols xs sum

  -- what a fault says of files that were loaded between s and t
  abbrev pub TellsRead : F → F → ExportFault → Type 0
  TellsRead s t (fault.File number told) = IsReadFault told × IsRefused loads s t number told
  TellsRead s t (fault.DimensionsDiffer number) = Differs loads s t number
  TellsRead s t fault.Memory = AreUnsummed loads s t
  TellsRead s t fault.SumTooLarge = ⊥
  TellsRead s t (fault.Output told) = ⊥
  TellsRead s t (fault.Save told) = ⊥

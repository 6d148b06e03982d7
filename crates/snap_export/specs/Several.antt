-- What `export` makes of several snapshots: the sum of what each of them adds up to.
--     added_up xs         what the batches of all of these snapshots add up to
--     sum_text rows cols xs
--                         the canonical text of that
--     HaveLoaded loads s t rows cols xs
--                         loads between s and t have answered these snapshots, one after the other, each of which a
--                         book accepts, and all in these dimensions
--     AddUp loads s t count rows cols xs
--                         they are so many, and their counts fit 64 bits together
--     TellsSum loads s t count fault
--                         what a fault says of the sum of so many files. One of a file is told only where its load, the
--                         next behind those before it, has answered so; other dimensions where the load has answered a
--                         snapshot of other dimensions than those before; that the counts pass 64 bits where all were
--                         loaded and do; and that there was no memory where a load has answered so, or where the counts
--                         of what was loaded fit
--     Tells loads s t count fault
--                         the same of what is written of the sum, to an output that may fail
use Rattle.std.specs.Prelude.{◌≡◌, ◌⊎◌, ℕ, ◌<◌, ◌≤◌, ◌^◌, List, [], ◌∷◌, length, Result, Err, Option, None}
use Rattle.std.specs.FinMap.{empty, get}
use Rattle.hyper_matrix.specs.Counts.{Counts, Place, ewise_add, plus, total}
use Rattle.hyper_matrix.specs.Matrix.{matrix}
use Rattle.batch_store.specs.Accepted.{summed}
use Rattle.batch_store.specs.Books.{accepted_in}
use Rattle.mm_laws.specs.MatrixText.{matrix_text}
use Rattle.snap_file.specs.Snapshots.{Saved}
use Rattle.snap_report.specs.Kept.{HasLoaded, most_bytes}
use Rattle.snap_report.specs.Logged.{IsReadFault}
use Rattle.snap_report.specs.declared.fault.CheckFault.{CheckFault}
use Rattle.snap_report.specs.declared.fault.CheckFault.TheVariants as check
use Rattle.snap_export.specs.declared.fault.ExportFault.{ExportFault}
use Rattle.snap_export.specs.declared.fault.ExportFault.TheVariants as fault

abbrev pub added_up : List Saved → Counts
added_up [] = empty
added_up (x ∷ xs) = ewise_add (summed (accepted_in x.list)) (added_up xs)

-- what a snapshot has at a place, and what several have there together
abbrev pub at_place : Place → Saved → Option ℕ
at_place p x = get (summed (accepted_in x.list)) p

abbrev pub added_options : List (Option ℕ) → Option ℕ
added_options [] = None
added_options (o ∷ os) = plus o (added_options os)

abbrev pub sum_text : ℕ → ℕ → List Saved → List ℕ
sum_text rows cols xs = matrix_text (matrix rows cols (added_up xs))

module _ {F : Type 0} (loads : F → ℕ → Result Saved CheckFault → F → Type 0) where
  abbrev pub HaveLoaded : F → F → ℕ → ℕ → List Saved → Type 0
  HaveLoaded s t rows cols [] = s ≡ t
  HaveLoaded s t rows cols (x ∷ xs) = (loaded : F) × HasLoaded loads s loaded x × (x.setup.rows ≡ rows)
      × (x.setup.cols ≡ cols) × HaveLoaded loaded t rows cols xs

  pub record AddUp (s t : F) (count rows cols : ℕ) (xs : List Saved) : Type 0 where
    pub count_is : length xs ≡ count
    pub loaded : HaveLoaded s t rows cols xs
    pub fits : total (added_up xs) < 2 ^ 64

  -- so many were loaded, and their counts pass 64 bits
  pub record CountsPass (s t : F) (count : ℕ) : Type 0 where
    pub rows : ℕ
    pub cols : ℕ
    pub xs : List Saved
    pub count_is : length xs ≡ count
    pub loaded : HaveLoaded s t rows cols xs
    pub passes : 2 ^ 64 ≤ total (added_up xs)

  -- the files before this one, counted from 0, were loaded
  pub record HaveLoadedBefore (s t : F) (number : ℕ) : Type 0 where
    pub rows : ℕ
    pub cols : ℕ
    pub xs : List Saved
    pub count_is : length xs ≡ number
    pub loaded : HaveLoaded s t rows cols xs

  -- this file wasn't loaded
  pub record IsRefused (s t : F) (number : ℕ) (told : CheckFault) : Type 0 where
    pub behind : F
    pub before : HaveLoadedBefore s behind number
    pub refused : loads behind most_bytes (Err told) t

  -- this file was loaded, and has other dimensions than those before it
  pub record Differs (s t : F) (number : ℕ) : Type 0 where
    pub behind : F
    pub before : HaveLoadedBefore s behind number
    pub some : 0 < number
    pub x : Saved
    pub loaded : HasLoaded loads behind t x
    pub differs : (x.setup.rows ≡ before.rows) × (x.setup.cols ≡ before.cols) → ⊥

  -- some files were loaded, and there was no memory for the next one, or for their sum, which fits
  pub record AreUnsummed (s t : F) : Type 0 where
    pub behind : F
    pub rows : ℕ
    pub cols : ℕ
    pub xs : List Saved
    pub loaded : HaveLoaded s behind rows cols xs
    pub place : ((behind ≡ t) × (total (added_up xs) < 2 ^ 64)) ⊎ loads behind most_bytes (Err check.Memory) t

  abbrev pub TellsSum : F → F → ℕ → ExportFault → Type 0
  TellsSum s t count (fault.File number told) = IsReadFault told × IsRefused s t number told
  TellsSum s t count (fault.DimensionsDiffer number) = Differs s t number
  TellsSum s t count fault.SumTooLarge = CountsPass s t count
  TellsSum s t count fault.Memory = AreUnsummed s t
  TellsSum s t count (fault.Output told) = ⊥
  TellsSum s t count (fault.Save told) = ⊥

  abbrev pub Tells : F → F → ℕ → ExportFault → Type 0
  Tells s t count (fault.Output told) = Unit {0}
  Tells s t count told = TellsSum s t count told

-- the only fault that may leave something written
abbrev pub LeavesText : ExportFault → Type 0
LeavesText (fault.Output told) = Unit {0}
LeavesText _ = ⊥

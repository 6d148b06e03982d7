-- What was loaded from a file and saved in it, and what a fault says of these calls.
--     HasLoaded loads s t x
--                     the file, which went from s to t, has answered a load with the snapshot x, which a book accepts
--     IsAlone g x     these numbers over those of x are those of x, or no log goes with x
--     HasFolded loads saves s t g x answer
--                     so it has, and then it has answered so to a save of the origin of x, of these numbers over those
--                     of x, and of what x tells, with all its batches folded
--     IsReadTold loads s t fault
--                     what is told of the only call, a load: a fault of the file is told only where it is the answer
--     IsFoldTold loads saves s t g fault
--                     what is told of a load and a save: a fault of the file only where the load has answered it, and
--                     no save follows; one of the save only where the fold was to be saved, and that is the answer; and
--                     that there was no memory where nothing was saved; that a number is too small, or a log missing,
--                     only where that is so of what was loaded
use Rattle.std.specs.Prelude.{◌≡◌, ◌≢◌, ◌⊎◌, ℕ, ◌^◌, Result, Ok, Err, true, false}
use Rattle.batch_store.specs.Growth.{IsGrowthMisfit, given_over}
use Rattle.batch_store.specs.Setups.{Setting}
use Rattle.batch_store.specs.declared.given_numbers.GivenNumbers.{GivenNumbers}
use Rattle.batch_store.specs.Accepted.{Accepted, summed, folded_into}
use Rattle.batch_store.specs.Books.{Listing, AreAccepted, accepted_in}
use Rattle.snap_file.specs.Snapshots.{Saved}
use Rattle.snap_file.specs.declared.origin.Origin.{Origin}
use Rattle.snap_file.specs.declared.fault.SnapFault.TheVariants as snap
use Rattle.snap_file.specs.declared.fault.FileFault.{FileFault}
use Rattle.snap_file.specs.declared.fault.FileFault.TheVariants as file
use Rattle.snap_file.specs.declared.fault.SaveFault.{SaveFault}
use Rattle.snap_file.specs.declared.fault.SaveFault.TheVariants as save
use Rattle.snap_report.specs.declared.fault.CheckFault.{CheckFault}
use Rattle.snap_report.specs.declared.fault.CheckFault.TheVariants as check
use Rattle.snap_report.specs.declared.fault.FoldFault.{FoldFault}
use Rattle.snap_report.specs.declared.fault.FoldFault.TheVariants as fold

-- the most bytes of a snapshot that is loaded, and of a log that is read
abbrev pub most_bytes : ℕ
most_bytes = 2 ^ 40

-- want of memory is told as such
abbrev pub IsFileFault : FileFault → Type 0
IsFileFault file.Memory = ⊥
IsFileFault (file.Snap snap.Memory) = ⊥
IsFileFault _ = Unit {0}

abbrev pub IsSaveFault : SaveFault → Type 0
IsSaveFault save.Memory = ⊥
IsSaveFault _ = Unit {0}

-- what a list tells, with all its batches folded
abbrev pub folded_in : Listing → Accepted
folded_in list = folded_into (summed (accepted_in list)) (accepted_in list)

abbrev pub HasLoaded : {F E : Type 0} → (F → ℕ → Result Saved E → F → Type 0) → F → F → Saved → Type 0
HasLoaded loads s t x = loads s most_bytes (Ok x) t × AreAccepted x.setup (accepted_in x.list)

abbrev pub IsAlone : GivenNumbers → Saved → Type 0
IsAlone g x = (given_over g x.setup ≡ x.setup) ⊎ (x.origin.has_log ≡ false)

abbrev pub HasFolded : {F : Type 0} → (F → ℕ → Result Saved FileFault → F → Type 0) →
    (F → Origin → Setting → Accepted → Result (Unit {0}) SaveFault → F → Type 0) → F → F → GivenNumbers → Saved →
    Result (Unit {0}) SaveFault → Type 0
HasFolded {F} loads saves s t g x answer =
    (loaded : F) × HasLoaded loads s loaded x × IsAlone g x
    × saves loaded x.origin (given_over g x.setup) (folded_in x.list) answer t

abbrev pub IsReadTold : {F : Type 0} → (F → ℕ → Result Saved FileFault → F → Type 0) → F → F → CheckFault → Type 0
IsReadTold loads s t (check.File fault) = IsFileFault fault × loads s most_bytes (Err fault) t
IsReadTold loads s t check.Memory = loads s most_bytes (Err file.Memory) t ⊎ ((x : Saved) × HasLoaded loads s t x)
IsReadTold loads s t (check.Output fault) = Unit {0}
IsReadTold loads s t (check.Log fault) = ⊥
IsReadTold loads s t check.LogDiffers = ⊥
IsReadTold loads s t (check.Join fault) = ⊥

abbrev pub IsFoldTold : {F : Type 0} → (F → ℕ → Result Saved FileFault → F → Type 0) →
    (F → Origin → Setting → Accepted → Result (Unit {0}) SaveFault → F → Type 0) → F → F → GivenNumbers → FoldFault →
    Type 0
IsFoldTold loads saves s t g (fold.File fault) = IsFileFault fault × loads s most_bytes (Err fault) t
IsFoldTold loads saves s t g (fold.Save fault) =
    IsSaveFault fault × ((x : Saved) × HasFolded loads saves s t g x (Err fault))
IsFoldTold loads saves s t g fold.Memory =
    loads s most_bytes (Err file.Memory) t ⊎ (((x : Saved) × HasLoaded loads s t x)
    ⊎ ((x : Saved) × HasFolded loads saves s t g x (Err save.Memory)))
IsFoldTold loads saves s t g (fold.TooSmall m) =
    (x : Saved) × HasLoaded loads s t x × IsGrowthMisfit x.setup (given_over g x.setup) (accepted_in x.list) m
IsFoldTold loads saves s t g fold.NeedsLog =
    (x : Saved) × HasLoaded loads s t x × (x.origin.has_log ≡ true) × (given_over g x.setup ≢ x.setup)
IsFoldTold loads saves s t g (fold.Output fault) = Unit {0}

-- a fault that comes after the load: of memory, or of the output
abbrev pub ComesLater : CheckFault → Type 0
ComesLater (check.File fault) = ⊥
ComesLater check.Memory = Unit {0}
ComesLater (check.Output fault) = Unit {0}
ComesLater (check.Log fault) = ⊥
ComesLater check.LogDiffers = ⊥
ComesLater (check.Join fault) = ⊥

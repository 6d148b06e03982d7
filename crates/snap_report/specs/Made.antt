-- What is made of files that were read, and what is said of it.
--     IsMade makes s t o v a
--                     the file that a snapshot is made in, which went from s to t, has answered that it was made of
--                     this origin, of this setup and of what was accepted
--     made_line word batches total
--                     a line: this word, so many batches, and their total
--     LeavesMade      the faults after which the file may have been asked for
--     IsLeft loads s t
--                     the file that was read, which went from s to t, has answered one load, and no other call
use Rattle.std.specs.Prelude.{ℕ, List, [], ◌∷◌, ◌++◌, codes, decimal, Result, Ok}
use Rattle.batch_store.specs.Accepted.{Accepted}
use Rattle.batch_store.specs.Setups.{Setting}
use Rattle.batch_store.specs.declared.fault.GrowthFault.{GrowthFault}
use Rattle.snap_file.specs.Snapshots.{Saved}
use Rattle.snap_file.specs.declared.fault.FileFault.{FileFault}
use Rattle.snap_file.specs.declared.fault.SaveFault.{SaveFault}
use Rattle.snap_file.specs.declared.origin.Origin.{Origin}
use Rattle.snap_report.specs.Kept.{most_bytes}
use Rattle.snap_report.specs.declared.making.MakeFault.{MakeFault}
use Rattle.snap_report.specs.declared.making.MakeFault.TheVariants.{Read, TooSmall, Save, Output}
use Rattle.snap_report.specs.declared.fault.CheckFault.TheVariants as check

abbrev pub IsMade : {N : Type 0} → (N → Origin → Setting → Accepted → Result (Unit {0}) SaveFault → N → Type 0) → N →
    N → Origin → Setting → Accepted → Type 0
IsMade makes s t o v a = makes s o v a (Ok tt) t

abbrev pub made_line : List ℕ → ℕ → ℕ → List ℕ
made_line word batches total = word ++ decimal batches ++ (codes " total " ++ decimal total) ++ 10 ∷ []

abbrev pub make_fault_of_growth : GrowthFault → MakeFault
make_fault_of_growth (GrowthFault.TooSmall misfit) = TooSmall misfit
make_fault_of_growth GrowthFault.Memory = Read check.Memory

abbrev pub LeavesMade : MakeFault → Type 0
LeavesMade (Save fault) = Unit {0}
LeavesMade (Output fault) = Unit {0}
LeavesMade _ = ⊥

abbrev pub IsLeft : {F : Type 0} → (F → ℕ → Result Saved FileFault → F → Type 0) → F → F → Type 0
IsLeft loads s t = (answer : Result Saved FileFault) × loads s most_bytes answer t

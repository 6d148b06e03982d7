-- What `fold` says of a snapshot that it has folded, and whose the fold of a snapshot and a log is.
use Rattle.std.specs.Prelude.{ℕ, List, codes, true}
use Rattle.batch_store.specs.declared.fault.GrowthFault.{GrowthFault}
use Rattle.snap_file.specs.Origins.{origin, own}
use Rattle.snap_file.specs.declared.origin.Identity.{Identity}
use Rattle.snap_file.specs.declared.origin.Origin.{Origin}
use Rattle.snap_file.specs.declared.fault.FileFault.{FileFault}
use Rattle.snap_file.specs.declared.fault.SaveFault.{SaveFault}
use Rattle.snap_report.specs.Made.{made_line}
use Rattle.snap_report.specs.declared.fault.FoldFault.{FoldFault}

-- want of memory is told alike, whoever found it
abbrev pub fold_fault_of_file : FileFault → FoldFault
fold_fault_of_file FileFault.Memory = FoldFault.Memory
fold_fault_of_file fault = FoldFault.File fault

abbrev pub fold_fault_of_save : SaveFault → FoldFault
fold_fault_of_save SaveFault.Memory = FoldFault.Memory
fold_fault_of_save fault = FoldFault.Save fault

abbrev pub fold_fault_of_growth : GrowthFault → FoldFault
fold_fault_of_growth (GrowthFault.TooSmall misfit) = FoldFault.TooSmall misfit
fold_fault_of_growth GrowthFault.Memory = FoldFault.Memory

-- the line of so many folded batches with this total
abbrev pub fold_line : ℕ → ℕ → List ℕ
fold_line batches total = made_line (codes "folded ") batches total

-- of the book that is known of a snapshot and a log, and a log goes with it
abbrev pub both_origin : Identity → Identity → Origin
both_origin known found = origin (own known found known) true

-- the only fault that may leave something written
abbrev pub LeavesLine : FoldFault → Type 0
LeavesLine (FoldFault.Output fault) = Unit {0}
LeavesLine _ = ⊥

-- What `check` says of a snapshot.
use Rattle.std.specs.Prelude.{ℕ, List, [], ◌∷◌, ◌++◌, codes, decimal}
use Rattle.std.specs.FinMap.{len}
use Rattle.batch_store.specs.Setups.{Setting}
use Rattle.batch_store.specs.Accepted.{Accepted, count_in, total_in, summed}
use Rattle.snap_file.specs.declared.fault.FileFault.{FileFault}
use Rattle.log_blocks.specs.declared.fault.LogFault.{LogFault}
use Rattle.log_blocks.specs.declared.fault.LogKind.{LogKind}
use Rattle.log_join.specs.declared.fault.JoinFault.{JoinFault}
use Rattle.snap_report.specs.declared.kept_log.LogFileFault.{LogFileFault}
use Rattle.snap_report.specs.declared.fault.CheckFault.{CheckFault}

-- want of memory is told as such, wherever it came up
abbrev pub fault_of_file : FileFault → CheckFault
fault_of_file FileFault.Memory = CheckFault.Memory
fault_of_file fault = CheckFault.File fault

abbrev pub fault_of_kind : LogKind → LogFault → CheckFault
fault_of_kind LogKind.Memory fault = CheckFault.Memory
fault_of_kind _ fault = CheckFault.Log (LogFileFault.Log fault)

abbrev pub fault_of_log : LogFileFault → CheckFault
fault_of_log (LogFileFault.Log fault) = fault_of_kind fault.kind fault
fault_of_log fault = CheckFault.Log fault

abbrev pub fault_of_join : JoinFault → CheckFault
fault_of_join JoinFault.Memory = CheckFault.Memory
fault_of_join JoinFault.SetupDiffers = CheckFault.LogDiffers
fault_of_join fault = CheckFault.Join fault

-- the line of these numbers
abbrev pub line_of : ℕ → ℕ → ℕ → ℕ → ℕ → ℕ → List ℕ
line_of rows cols shards batches total entries =
    (codes "rows " ++ decimal rows) ++ (codes " cols " ++ decimal cols) ++ (codes " shards " ++ decimal shards)
    ++ (codes " batches " ++ decimal batches) ++ (codes " total " ++ decimal total) ++
    (codes " entries " ++ decimal entries) ++ 10 ∷ []

-- the line of a snapshot
abbrev pub check_line : Setting → Accepted → List ℕ
check_line s a = line_of s.rows s.cols s.shards (count_in a) (total_in a) (len (summed a))

-- the only fault that may leave something written
abbrev pub LeavesOutput : CheckFault → Type 0
LeavesOutput (CheckFault.Output fault) = Unit {0}
LeavesOutput fault = ⊥

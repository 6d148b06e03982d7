-- What the program tells: the fault that a list's fault is, and the status that it ends with, which is 2 for settings,
-- 3 for what the text says, 4 for a device and 5 for memory.
use Rattle.std.specs.Prelude.{ℕ, ◌==◌, if◌then◌else◌}
use Rattle.mm_text.specs.declared.fault.MmKind.{MmKind}
use Rattle.mm_text.specs.declared.fault.MmKind.TheVariants as kind
use Rattle.mm_sum.specs.declared.fault.SumFault.{SumFault}
use Rattle.mm_sum.specs.declared.fault.SumFault.TheVariants.{BadCuts, Text, SumTooLarge, Memory, Output}
use Rattle.mm_sum.specs.declared.fault.TextsFault.{TextsFault}
use Rattle.mm_sum.specs.declared.fault.TextsFault.TheVariants as texts
use Rattle.hhm.specs.declared.numbers.ListFault.{ListFault}
use Rattle.hhm.specs.declared.numbers.ListFault.TheVariants as list
use Rattle.hhm.specs.declared.report.Fault.{Fault}
use Rattle.hhm.specs.declared.report.Fault.TheVariants.{BadNumber, BadPath, BadLog, BadOut, Exists, LogBusy, NoRandom}
use Rattle.hhm.specs.declared.report.Fault.TheVariants.{SamePath, Setup, Sum, Texts, Check, Fold, Make, Export}
use Rattle.hhm.specs.declared.report.Fault.TheVariants.{Difference, BadTo, BadFile, Roll, NotReached, Ask}
use Rattle.ask_server.specs.declared.fault.AskFault.{AskFault}
use Rattle.ask_server.specs.declared.fault.AskFault.TheVariants as ask
use Rattle.snap_export.specs.declared.fault.ExportFault.{ExportFault}
use Rattle.snap_export.specs.declared.fault.ExportFault.TheVariants as export
use Rattle.snap_export.specs.declared.minus_fault.DifferenceFault.{DifferenceFault}
use Rattle.snap_export.specs.declared.minus_fault.DifferenceFault.TheVariants as difference
use Rattle.snap_roll.specs.declared.roll_fault.RollFault.{RollFault}
use Rattle.snap_roll.specs.declared.roll_fault.RollFault.TheVariants as roll
use Rattle.snap_report.specs.declared.fault.CheckFault.{CheckFault}
use Rattle.snap_report.specs.declared.fault.CheckFault.TheVariants as check
use Rattle.snap_report.specs.declared.making.MakeFault.{MakeFault}
use Rattle.snap_report.specs.declared.making.MakeFault.TheVariants as make
use Rattle.snap_file.specs.declared.fault.SaveFault.TheVariants as save
use Rattle.snap_report.specs.declared.fault.FoldFault.{FoldFault}
use Rattle.snap_report.specs.declared.fault.FoldFault.TheVariants as fold
use Rattle.snap_report.specs.declared.kept_log.LogFileFault.{LogFileFault}
use Rattle.snap_report.specs.declared.kept_log.LogFileFault.TheVariants as log_file
use Rattle.log_blocks.specs.declared.fault.LogKind.{LogKind}
use Rattle.log_blocks.specs.declared.fault.LogKind.TheVariants as log_kind
use Rattle.snap_file.specs.declared.fault.FileFault.{FileFault}
use Rattle.snap_file.specs.declared.fault.FileFault.TheVariants as file
use Rattle.snap_file.specs.declared.fault.SnapFault.{SnapFault}
use Rattle.snap_file.specs.declared.fault.SnapFault.TheVariants as snap

abbrev pub fault_of_list : ListFault → Fault
fault_of_list list.BadNumber = BadNumber
fault_of_list list.Memory = Sum Memory

-- a read that failed is the device's fault, and all else the text's
abbrev pub text_status : MmKind → ℕ
text_status kind.Read = 4
text_status _ = 3

abbrev pub sum_status : SumFault → ℕ
sum_status BadCuts = 2
sum_status (Text fault) = text_status fault.kind
sum_status SumTooLarge = 3
sum_status (Output fault) = 4
sum_status Memory = 5

-- of several texts as of one; and what can't be opened is the device's fault
abbrev pub texts_status : TextsFault → ℕ
texts_status texts.BadCuts = 2
texts_status (texts.Text at fault) = text_status fault.kind
texts_status (texts.DimensionsDiffer at) = 3
texts_status texts.SumTooLarge = 3
texts_status (texts.File at fault) = 4
texts_status (texts.Output fault) = 4
texts_status texts.Memory = 5

-- a read that failed is the device's fault, and all else the file's
abbrev pub snapshot_status : SnapFault → ℕ
snapshot_status snap.Read = 4
snapshot_status _ = 3

abbrev pub file_status : FileFault → ℕ
file_status (file.Snap fault) = snapshot_status fault
file_status _ = 4

-- a read that failed is the device's fault, and all else the log's
abbrev pub log_kind_status : LogKind → ℕ
log_kind_status log_kind.Read = 4
log_kind_status log_kind.Memory = 5
log_kind_status _ = 3

abbrev pub log_file_status : LogFileFault → ℕ
log_file_status (log_file.Log fault) = log_kind_status fault.kind
log_file_status _ = 4

abbrev pub check_status : CheckFault → ℕ
check_status (check.File fault) = file_status fault
check_status check.Memory = 5
check_status (check.Output fault) = 4
check_status (check.Log fault) = log_file_status fault
check_status check.LogDiffers = 2
check_status (check.Join fault) = 3

abbrev pub fold_status : FoldFault → ℕ
fold_status (fold.File fault) = file_status fault
fold_status fold.Memory = 5
fold_status (fold.TooSmall misfit) = 2
fold_status fold.NeedsLog = 2
fold_status (fold.Save fault) = 4
fold_status (fold.Output fault) = 4

abbrev pub make_status : MakeFault → ℕ
make_status (make.Read fault) = check_status fault
make_status make.HasWindow = 3
make_status (make.TooSmall misfit) = 2
make_status make.NeedsLog = 2
make_status (make.Save save.Memory) = 5
make_status (make.Save fault) = 4
make_status (make.Output fault) = 4

abbrev pub export_status : ExportFault → ℕ
export_status (export.File at fault) = check_status fault
export_status (export.DimensionsDiffer at) = 3
export_status export.SumTooLarge = 3
export_status export.Memory = 5
export_status (export.Output fault) = 4
export_status (export.Save fault) = 4

abbrev pub difference_status : DifferenceFault → ℕ
difference_status (difference.New fault) = check_status fault
difference_status (difference.Old fault) = check_status fault
difference_status difference.OtherBook = 3
difference_status difference.DimensionsDiffer = 3
difference_status (difference.NotBefore at) = 3
difference_status (difference.Falls row col) = 3
difference_status difference.Memory = 5
difference_status (difference.Output fault) = 4
difference_status (difference.Save fault) = 4

abbrev pub roll_status : RollFault → ℕ
roll_status (roll.To fault) = file_status fault
roll_status roll.ToHasWindow = 3
roll_status roll.ToNotClosed = 3
roll_status (roll.File at fault) = check_status fault
roll_status (roll.Refused at why) = 3
roll_status roll.Memory = 5
roll_status (roll.Save fault) = 4
roll_status (roll.Output fault) = 4

abbrev pub ask_status : AskFault → ℕ
ask_status ask.BadReply = 3
ask_status (ask.Refused code) = if (code == 1) then 5 else 4
ask_status ask.Memory = 5
ask_status _ = 4

abbrev pub fault_status : Fault → ℕ
fault_status BadNumber = 2
fault_status BadPath = 2
fault_status BadLog = 2
fault_status BadOut = 2
fault_status BadTo = 2
fault_status BadFile = 2
fault_status Exists = 4
fault_status LogBusy = 4
fault_status NoRandom = 4
fault_status SamePath = 2
fault_status (Setup fault) = 2
fault_status (Sum fault) = sum_status fault
fault_status (Texts fault) = texts_status fault
fault_status (Check fault) = check_status fault
fault_status (Fold fault) = fold_status fault
fault_status (Make fault) = make_status fault
fault_status (Export fault) = export_status fault
fault_status (Difference fault) = difference_status fault
fault_status (Roll fault) = roll_status fault
fault_status NotReached = 4
fault_status (Ask fault) = ask_status fault

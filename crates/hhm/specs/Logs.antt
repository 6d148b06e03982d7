-- The status that the program ends with after a log's fault: 2 where it is of another setup, 3 for what it says, 4 for
-- its file or its folder, 5 for memory.
use Rattle.std.specs.Prelude.{ℕ}
use Rattle.hhm.specs.Reports.{log_kind_status}
use Rattle.log_start.specs.declared.fault.StartFault.{StartFault}
use Rattle.log_start.specs.declared.fault.StartFault.TheVariants.{Log, SetupDiffers, Gap, LinkDiffers, EntryDiffers}
use Rattle.log_start.specs.declared.fault.StartFault.TheVariants.{NotFresh, Memory, OtherBook}

abbrev pub log_status : StartFault → ℕ
log_status (Log fault) = log_kind_status fault.kind
log_status OtherBook = 3
log_status SetupDiffers = 2
log_status (Gap first) = 3
log_status LinkDiffers = 3
log_status (EntryDiffers at) = 3
log_status (NotFresh at) = 3
log_status Memory = 5
log_status _ = 4

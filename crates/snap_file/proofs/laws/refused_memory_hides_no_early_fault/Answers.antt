use Rattle.snap_file.proofs.MemoryLaws.{late_fault}
use Rattle.snap_file.proofs.laws.refused_memory_hides_no_early_fault.Goals as goal

pub returns : goal.returns
returns c = late_fault

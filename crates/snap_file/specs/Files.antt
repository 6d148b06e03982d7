-- What a fault of a snapshot is told as, where a file was read.
use Rattle.snap_file.specs.declared.fault.SnapFault.{SnapFault}
use Rattle.snap_file.specs.declared.fault.SnapFault.TheVariants.{Memory}
use Rattle.snap_file.specs.declared.fault.FileFault.{FileFault}

abbrev pub fault_of_file : SnapFault → FileFault
fault_of_file Memory = FileFault.Memory
fault_of_file fault = FileFault.Snap fault

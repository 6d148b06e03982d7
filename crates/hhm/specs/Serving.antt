-- The status that the program ends with after a server's fault: 2 for settings, 3 for what a snapshot or a log says, 4
-- for a device, an address or a thread, 5 for memory, 6 for records that differ.
use Rattle.std.specs.Prelude.{ℕ}
use Rattle.hhm.specs.Logs.{log_status}
use Rattle.hhm.specs.Reports.{file_status}
use Rattle.socket_server.specs.declared.fault.ServerFault.{ServerFault}
use Rattle.socket_server.specs.declared.fault.ServerFault.TheVariants.{Memory, BadWorkers, NoAddress, SamePath}
use Rattle.socket_server.specs.declared.fault.ServerFault.TheVariants.{BadSnapshotPath, BadLogPath, NeedsLog}
use Rattle.socket_server.specs.declared.fault.ServerFault.TheVariants.{BadCompactors, SnapshotDiffers, File, Log, RecordsDiffer}
use Rattle.socket_server.specs.declared.fault.ServerFault.TheVariants.{LogDiffers, NeedsNumber}

abbrev pub server_status : ServerFault → ℕ
server_status BadWorkers = 2
server_status NoAddress = 2
server_status BadSnapshotPath = 2
server_status BadLogPath = 2
server_status SamePath = 2
server_status BadCompactors = 2
server_status (SnapshotDiffers misfit) = 2
server_status (LogDiffers misfit) = 2
server_status (NeedsNumber number) = 2
server_status (NeedsLog snapshot) = 2
server_status (File fault) = file_status fault
server_status (Log fault) = log_status fault
server_status Memory = 5
server_status RecordsDiffer = 6
server_status _ = 4

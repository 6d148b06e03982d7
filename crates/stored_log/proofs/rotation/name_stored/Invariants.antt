use Rattle.stored_log.specs.Kept.{log_in}
use Rattle.stored_log.proofs.rotation.name_stored.Given as goal

abbrev pub ghost-finish_rotation : goal.ghost-finish_rotation
ghost-finish_rotation g a = log_in (g.F.Disk.LogDisk.written a.new.file.disk) a.new.writer.first

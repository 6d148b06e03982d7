use Rattle.stored_log.specs.Kept.{log_in}
use Rattle.stored_log.proofs.stored.StoredLog.stretch.Given as goal

abbrev pub ghost-make_ready : goal.ghost-make_ready
ghost-make_ready g a = log_in (g.D.LogDisk.written a.log.now.file.disk) a.log.now.writer.first

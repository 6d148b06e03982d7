use Rattle.batch_store.specs.Batches.{values}
use Rattle.log_batches.specs.Payloads.{block_of}
use Rattle.stored_log.specs.Kept.{log_in}
use Rattle.stored_log.proofs.stored.StoredLog.write.Given as goal

abbrev pub ghost-write_block : goal.ghost-write_block
ghost-write_block g a = (
  log_in (g.D.LogDisk.written a.log.now.file.disk) a.log.now.writer.first,
  block_of (values a.batches.now),
)

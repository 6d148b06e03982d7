use Rattle.stored_log.proofs.entries.Told.of_batches.Given as goal

abbrev pub ghost-new : goal.ghost-new
ghost-new g a = g.known

use Rattle.stored_log.proofs.block.write_block.Given as goal

abbrev pub ghost-append : goal.ghost-append
ghost-append g a = g.known

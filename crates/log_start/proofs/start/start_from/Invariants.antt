use Rattle.log_start.proofs.start.start_from.Given as goal

abbrev pub ghost-settle_found : goal.ghost-settle_found
ghost-settle_found g a = g.kept

use Rattle.log_start.proofs.start.start_log.Given as goal

abbrev pub ghost-start_from : goal.ghost-start_from
ghost-start_from g a = g.kept

use Rattle.log_start.proofs.restart.start_after.Given as goal

abbrev pub ghost-start_log : goal.ghost-start_log
ghost-start_log g a = g.kept

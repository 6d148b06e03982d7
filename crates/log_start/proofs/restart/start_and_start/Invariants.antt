use Rattle.log_start.proofs.restart.start_and_start.Given as goal

abbrev pub ghost-start_log : goal.ghost-start_log
ghost-start_log g a = g.kept

abbrev pub ghost-start_after : goal.ghost-start_after
ghost-start_after g a = g.kept

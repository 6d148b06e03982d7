use Rattle.log_start.proofs.restart.append_and_start.Given as goal

abbrev pub ghost-append : goal.ghost-append
ghost-append g a = g.known

abbrev pub ghost-start_after : goal.ghost-start_after
ghost-start_after g a = g.known

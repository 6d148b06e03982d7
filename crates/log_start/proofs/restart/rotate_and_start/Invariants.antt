use Rattle.log_start.proofs.restart.rotate_and_start.Given as goal

abbrev pub ghost-finish_rotation : goal.ghost-finish_rotation
ghost-finish_rotation g a = g.kept.0

abbrev pub ghost-start_after : goal.ghost-start_after
ghost-start_after g a = g.kept

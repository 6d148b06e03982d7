use Rattle.log_start.proofs.settle.settle_found.Given as goal

abbrev pub ghost-settle : goal.ghost-settle
ghost-settle g a = g.kept

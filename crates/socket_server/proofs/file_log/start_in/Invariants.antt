use Rattle.socket_server.proofs.file_log.start_in.Given as goal

abbrev pub ghost-start_log : goal.ghost-start_log
ghost-start_log g a = g.kept

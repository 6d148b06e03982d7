use Rattle.stored_log.proofs.room.make_ready.Given as goal

abbrev pub ghost-make_room : goal.ghost-make_room
ghost-make_room g a = g.known

abbrev pub ghost-cut_room : goal.ghost-cut_room
ghost-cut_room g a = g.known

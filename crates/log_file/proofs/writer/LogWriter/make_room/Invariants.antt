use Rattle.log_file.proofs.writer.LogWriter.make_room.Given as goal

-- the log is the caller's
abbrev pub ghost-fill_pages : goal.ghost-fill_pages
ghost-fill_pages g a = g.log

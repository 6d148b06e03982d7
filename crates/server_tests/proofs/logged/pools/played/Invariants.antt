use Rattle.std.proofs.Common.{◌+◌}
use Rattle.std.specs.Prelude.{⊤}
use Rattle.session_pool.specs.Saves.{path_of}
use Rattle.server_tests.proofs.logged.pools.played.Given as goal

-- the engine that these names name
abbrev pub ghosts-play-N-Ledger : goal.ghosts-play-N-Ledger
ghosts-play-N-Ledger g a = record { name = a.names.first; parts = a.names.seats }

abbrev pub ghosts-play-N-Named : goal.ghosts-play-N-Named
ghosts-play-N-Named g a = record {
  setup = a.names.setup;
  seats = a.names.seats;
  history = a.names.history;
  opened = a.plain.book.state;
  log = path_of a.saver.now.log;
  synced = λ entries. ⊤;
}

abbrev pub ghosts-play-H-Ledger : goal.ghosts-play-H-Ledger
ghosts-play-H-Ledger g a = record { name = a.names.second; parts = a.names.setup.shards + a.names.seats }

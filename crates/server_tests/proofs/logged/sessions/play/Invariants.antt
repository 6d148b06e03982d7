use Rattle.std.proofs.Common.{◌+◌}
use Rattle.std.specs.Prelude.{Some, ⊤}
use Rattle.server_tests.proofs.logged.sessions.play.Given as goal

-- the engine that these names name
abbrev pub ghosts-play_named-N-Ledger : goal.ghosts-play_named-N-Ledger
ghosts-play_named-N-Ledger g a = record { name = a.names.first; parts = a.names.seats }

abbrev pub ghosts-play_named-N-Named : goal.ghosts-play_named-N-Named
ghosts-play_named-N-Named g a = record {
  setup = a.names.setup;
  seats = a.names.seats;
  history = a.names.history;
  opened = a.plain.book.state;
  log = Some a.case.now.path.now;
  synced = λ entries. ⊤;
}

abbrev pub ghosts-play_named-H-Ledger : goal.ghosts-play_named-H-Ledger
ghosts-play_named-H-Ledger g a = record { name = a.names.second; parts = a.names.setup.shards + a.names.seats }

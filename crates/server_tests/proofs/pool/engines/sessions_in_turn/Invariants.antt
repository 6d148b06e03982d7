use Rattle.std.proofs.Common.{◌+◌}
use Rattle.std.specs.Prelude.{None, ⊤}
use Rattle.server_tests.proofs.pool.engines.sessions_in_turn.Given as goal

-- the engine that these names name
abbrev pub ghosts-served_in_turn-N-Ledger : goal.ghosts-served_in_turn-N-Ledger
ghosts-served_in_turn-N-Ledger g a = record { name = a.names.first; parts = a.names.seats }

abbrev pub ghosts-served_in_turn-N-Named : goal.ghosts-served_in_turn-N-Named
ghosts-served_in_turn-N-Named g a = record {
  setup = a.names.setup;
  seats = a.names.seats;
  history = a.names.history;
  opened = a.plain.book.state;
  log = None;
  synced = λ entries. ⊤;
}

abbrev pub ghosts-served_in_turn-H-Ledger : goal.ghosts-served_in_turn-H-Ledger
ghosts-served_in_turn-H-Ledger g a = record { name = a.names.second; parts = a.names.setup.shards + a.names.seats }

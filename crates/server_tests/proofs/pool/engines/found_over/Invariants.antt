use Rattle.std.proofs.Common.{◌+◌}
use Rattle.std.specs.Prelude.{None, ⊤}
use Rattle.server_tests.proofs.pool.engines.found_over.Given as goal

-- the engine that these names name
abbrev pub ghosts-pooled-N-Ledger : goal.ghosts-pooled-N-Ledger
ghosts-pooled-N-Ledger g a = record { name = a.names.first; parts = a.names.seats }

abbrev pub ghosts-pooled-N-Named : goal.ghosts-pooled-N-Named
ghosts-pooled-N-Named g a = record {
  setup = a.names.setup;
  seats = a.names.seats;
  history = a.names.history;
  opened = a.plain.book.state;
  log = None;
  synced = λ entries. ⊤;
}

abbrev pub ghosts-pooled-H-Ledger : goal.ghosts-pooled-H-Ledger
ghosts-pooled-H-Ledger g a = record { name = a.names.second; parts = a.names.setup.shards + a.names.seats }

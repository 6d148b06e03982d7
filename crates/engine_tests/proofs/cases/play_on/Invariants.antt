use Rattle.std.proofs.Common.{◌+◌}
use Rattle.std.specs.Prelude.{None, ⊤}
use Rattle.engine_tests.proofs.cases.play_on.Given as goal

-- the engine that these names name
abbrev pub ghosts-closed_after-N-Ledger : goal.ghosts-closed_after-N-Ledger
ghosts-closed_after-N-Ledger g a = record { name = a.names.first; parts = a.names.seats }

abbrev pub ghosts-closed_after-N-Named : goal.ghosts-closed_after-N-Named
ghosts-closed_after-N-Named g a = record {
  setup = a.names.setup;
  seats = a.names.seats;
  history = a.names.history;
  opened = a.plain.book.state;
  log = None;
  synced = λ entries. ⊤;
}

abbrev pub ghosts-closed_after-H-Ledger : goal.ghosts-closed_after-H-Ledger
ghosts-closed_after-H-Ledger g a = record { name = a.names.second; parts = a.names.setup.shards + a.names.seats }

use Rattle.std.proofs.Common.{◌+◌}
use Rattle.std.specs.Prelude.{None, ⊤}
use Rattle.refuse_growths.proofs.locked.run_with.Given as goal

-- the engine that these names name
abbrev pub ghosts-run_named-N-Ledger : goal.ghosts-run_named-N-Ledger
ghosts-run_named-N-Ledger g a = record { name = a.names.first; parts = a.names.seats }

abbrev pub ghosts-run_named-N-Named : goal.ghosts-run_named-N-Named
ghosts-run_named-N-Named g a = record {
  setup = a.names.setup;
  seats = a.names.seats;
  history = a.names.history;
  opened = a.plain.book.state;
  log = None;
  synced = λ entries. ⊤;
}

abbrev pub ghosts-run_named-H-Ledger : goal.ghosts-run_named-H-Ledger
ghosts-run_named-H-Ledger g a = record { name = a.names.second; parts = a.names.setup.shards + a.names.seats }

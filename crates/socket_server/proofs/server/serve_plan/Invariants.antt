use Rattle.std.proofs.Common.{◌+◌}
use Rattle.session_pool.specs.Saves.{path_of}
use Rattle.socket_server.proofs.server.serve_plan.Given as goal

-- the engine that these names name
abbrev pub ghosts-serve_named-N-Ledger : goal.ghosts-serve_named-N-Ledger
ghosts-serve_named-N-Ledger g a = record { name = a.names.first; parts = a.names.seats }

abbrev pub ghosts-serve_named-N-Named : goal.ghosts-serve_named-N-Named
ghosts-serve_named-N-Named g a = record {
  setup = a.names.setup;
  seats = a.names.seats;
  history = a.names.history;
  opened = a.start.plain.book.state;
  log = path_of a.plan.saver.log;
  synced = g.L.Log.was_synced;
}

abbrev pub ghosts-serve_named-H-Ledger : goal.ghosts-serve_named-H-Ledger
ghosts-serve_named-H-Ledger g a = record { name = a.names.second; parts = a.names.setup.shards + a.names.seats }

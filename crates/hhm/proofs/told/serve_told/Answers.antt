use Rattle.std.proofs.Common.{inl}
use Rattle.hhm.proofs.told.serve_told.Goals as goal

pub returns-in-None-clause-judged : goal.returns-in-None-clause-judged
returns-in-None-clause-judged g c =
    let is = c.run_server.ensures in
    inl (record {
      workers = is.workers;
      nowhere = is.nowhere;
      snapshot_path = is.snapshot_path;
      log_path = is.log_path;
      one_path = is.one_path;
      compactors = is.compactors;
    })

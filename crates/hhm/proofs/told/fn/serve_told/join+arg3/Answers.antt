use Rattle.std.proofs.Common.{inl}
use Rattle.hhm.proofs.told.fn.serve_told.join+arg3.Goals as goal

pub returns : goal.returns
returns g c =
    let is = c.run_server-outcome.ensures in
    record {
      judged = inl (record {
        workers = is.workers;
        nowhere = is.nowhere;
        snapshot_path = is.snapshot_path;
        log_path = is.log_path;
        one_path = is.one_path;
        compactors = is.compactors;
      });
      locked = is.locked;
      log_locked = is.log_locked;
      ended = is.ended;
      short = is.short;
    }

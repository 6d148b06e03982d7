use Rattle.std.proofs.lemmas.Result.{err_from_is_err_and}
use Rattle.socket_server.proofs.lock.take_locks.Goals as goal

-- a fault of the snapshot's lock is told, whatever the setup
pub returns-in_err-snapshot-clause-told : goal.returns-in_err-snapshot-clause-told
returns-in_err-snapshot-clause-told g c =
    let p = err_from_is_err_and c.from_residual.result c.from_residual.ensures.1 in
    rw (p.1, p.2) (c.in_err-snapshot.ensures.told c.args.settings.now.numbers)

-- a fault of the log's lock is met, whether the snapshot must be there or not
pub returns-in_err-log-clause-met : goal.returns-in_err-log-clause-met
returns-in_err-log-clause-met g c =
    let p = err_from_is_err_and c.from_residual-in_err-log.result c.from_residual-in_err-log.ensures.1 in
    rw (p.1, p.2) (c.in_err-log.ensures.met c.args.settings.now.must_load)

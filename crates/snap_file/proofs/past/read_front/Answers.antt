use Rattle.std.proofs.lemmas.Result.{err_from_is_err_and}
use Rattle.snap_file.specs.Table.{past, checked}
use Rattle.snap_file.proofs.past.read_front.Goals as goal

pub returns-in_err-first-clause-err : goal.returns-in_err-first-clause-err
returns-in_err-first-clause-err g c =
    let p = err_from_is_err_and c.from_residual.result c.from_residual.ensures.1 in
    rw (p.1, p.2) (λ s m k b h. c.in_err-first.ensures.err s m (λ x o. checked x.version (past x) (k x o)) h)

pub returns-in_err-past-clause-err : goal.returns-in_err-past-clause-err
returns-in_err-past-clause-err g c =
    let p = err_from_is_err_and c.from_residual-in_err-past.result c.from_residual-in_err-past.ensures.1 in
    let f = c.in_ok-first.first in
    rw (p.1, p.2) (λ s m k b h.
    c.in_err-past.ensures.err s m (k f.0 f.1) (λ q. b f.0 f.1 q)
    (c.in_ok-first.ensures.ok s m (λ x o. checked x.version (past x) (k x o)) h))

pub returns-clause-ok : goal.returns-clause-ok
returns-clause-ok g c =
    let f = c.in_ok-first.first in
    λ s m k h. c.in_ok-past.ensures.ok s m (k f.0 f.1)
    (c.in_ok-first.ensures.ok s m (λ x o. checked x.version (past x) (k x o)) h)

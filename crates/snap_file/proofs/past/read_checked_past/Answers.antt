use Rattle.std.proofs.lemmas.Result.{err_from_is_err_and}
use Rattle.snap_file.specs.Lists.{progress_in}
use Rattle.snap_file.specs.Table.{check_in}
use Rattle.snap_file.proofs.BehindLemmas.{behind_check_in}
use Rattle.snap_file.proofs.past.read_checked_past.Goals as goal

pub returns-in_err-past-clause-err : goal.returns-in_err-past-clause-err
returns-in_err-past-clause-err g c =
    let p = err_from_is_err_and c.from_residual.result c.from_residual.ensures.1 in
    rw (p.1, p.2) (λ s m k b h.
    c.in_err-past.ensures.err s m (λ q. check_in c.args.head.now.version (λ _. k q))
    (λ q. behind_check_in c.args.head.now.version (λ _. k q) (b q)) h)

pub returns-in_err-next_check_in-clause-err : goal.returns-in_err-next_check_in-clause-err
returns-in_err-next_check_in-clause-err g c =
    let p = err_from_is_err_and c.from_residual-in_err-next_check_in.result
    c.from_residual-in_err-next_check_in.ensures.1 in
    rw (p.1, p.2) (λ s m k b h.
    c.in_err-next_check_in.ensures.err s m (λ _. k (progress_in c.in_ok-past.past))
    (c.in_ok-past.ensures.ok s m (λ q. check_in c.args.head.now.version (λ _. k q)) h))

pub returns-clause-ok : goal.returns-clause-ok
returns-clause-ok g c = λ s m k h.
    c.in_ok-next_check_in.ensures.ok s m (λ _. k (progress_in c.in_ok-past.past))
    (c.in_ok-past.ensures.ok s m (λ q. check_in c.args.head.now.version (λ _. k q)) h)

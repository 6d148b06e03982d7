use Rattle.std.proofs.lemmas.Result.{err_from_is_err_and}
use Rattle.snap_file.specs.Table.{Reading, check_in, origin_by}
use Rattle.snap_file.specs.declared.head.Head.{Head}
use Rattle.snap_file.specs.declared.origin.Origin.{Origin}
use Rattle.snap_file.proofs.past.read_checked_head.Goals as goal

-- what follows the head
abbrev behind : (Head → Origin → Reading) → Head → Reading
behind k h = origin_by h.version (λ o. check_in h.version (λ _. k h o))

pub returns-in_err-head-clause-err : goal.returns-in_err-head-clause-err
returns-in_err-head-clause-err g c =
    let p = err_from_is_err_and c.from_residual.result c.from_residual.ensures.1 in
    rw (p.1, p.2) (λ s m k h. c.in_err-head.ensures.err s m (behind k) h)

pub returns-in_err-origin-clause-err : goal.returns-in_err-origin-clause-err
returns-in_err-origin-clause-err g c =
    let p = err_from_is_err_and c.from_residual-in_err-origin.result c.from_residual-in_err-origin.ensures.1 in
    let x = c.in_ok-head.head in
    rw (p.1, p.2) (λ s m k h. c.in_err-origin.ensures.err s m (λ o. check_in x.version (λ _. k x o))
    (c.in_ok-head.ensures.ok s m (behind k) h))

pub returns-in_err-next_check_in-clause-err : goal.returns-in_err-next_check_in-clause-err
returns-in_err-next_check_in-clause-err g c =
    let p = err_from_is_err_and c.from_residual-in_err-next_check_in.result
    c.from_residual-in_err-next_check_in.ensures.1 in
    let x = c.in_ok-head.head in
    rw (p.1, p.2) (λ s m k h. c.in_err-next_check_in.ensures.err s m (λ _. k x c.in_ok-origin.origin)
    (c.in_ok-origin.ensures.ok s m (λ o. check_in x.version (λ _. k x o))
    (c.in_ok-head.ensures.ok s m (behind k) h)))

pub returns-clause-ok : goal.returns-clause-ok
returns-clause-ok g c =
    let x = c.in_ok-head.head in
    λ s m k h. c.in_ok-next_check_in.ensures.ok s m (λ _. k x c.in_ok-origin.origin)
    (c.in_ok-origin.ensures.ok s m (λ o. check_in x.version (λ _. k x o))
    (c.in_ok-head.ensures.ok s m (behind k) h))

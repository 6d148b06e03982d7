use Rattle.std.proofs.Common.{◌∙◌, arith}
use Rattle.std.proofs.lemmas.Result.{err_from_is_err_and}
use Rattle.snap_file.proofs.reader.ByteReader.next_pair.Goals as goal

pub next_u64-requires-2 : goal.next_u64-requires-2
next_u64-requires-2 g c = omega (arith, c.requires, c.in_ok-first.ensures.no_failure)

pub returns-in_err-first-clause-err : goal.returns-in_err-first-clause-err
returns-in_err-first-clause-err g c =
    let p = err_from_is_err_and c.from_residual.result c.from_residual.ensures.1 in
    rw (p.1, p.2) (λ s m k h. c.in_err-first.ensures.err s m _ h)

pub returns-in_err-second-clause-err : goal.returns-in_err-second-clause-err
returns-in_err-second-clause-err g c =
    let p = err_from_is_err_and c.from_residual-in_err-second.result c.from_residual-in_err-second.ensures.1 in
    rw (p.1, p.2) (λ s m k h. c.in_err-second.ensures.err s m _ (c.in_ok-first.ensures.ok s m _ h))

pub returns-clause-ok : goal.returns-clause-ok
returns-clause-ok g c = λ s m k h. c.in_ok-second.ensures.ok s m _ (c.in_ok-first.ensures.ok s m _ h)

pub returns-clause-no_failure : goal.returns-clause-no_failure
returns-clause-no_failure g c = c.in_ok-second.ensures.no_failure ∙ c.in_ok-first.ensures.no_failure

use Rattle.std.proofs.Common.{◌++◌}
use Rattle.std.proofs.lemmas.Result.{err_from_is_err_and}
use Rattle.snap_file.specs.Spelling.{version, past_bytes, check_bytes}
use Rattle.snap_file.proofs.WriteLemmas.{apart, check_next}
use Rattle.snap_file.proofs.write.write_checked_past.Goals as goal

pub returns-in_err-write_past-clause-err : goal.returns-in_err-write_past-clause-err
returns-in_err-write_past-clause-err g c =
    let p = err_from_is_err_and c.from_residual.result c.from_residual.ensures.1 in
    let part = past_bytes c.args.base.now.whole.counts c.args.folded.now in
    rw (p.1, p.2) (λ s all front left h.
    c.in_err-write_past.ensures.err s all (check_bytes version (front ++ part) ++ left)
    (apart _ _ s _ all _ part (check_bytes version (front ++ part)) left h))

pub returns-in_err-write_check-clause-err : goal.returns-in_err-write_check-clause-err
returns-in_err-write_check-clause-err g c =
    let p = err_from_is_err_and c.from_residual-in_err-write_check.result
    c.from_residual-in_err-write_check.ensures.1 in
    let part = past_bytes c.args.base.now.whole.counts c.args.folded.now in
    rw (p.1, p.2) (λ s all front left h.
    c.in_err-write_check.ensures.err s all (check_bytes version (front ++ part) ++ left)
    (c.in_ok-write_past.ensures.ok s all (check_bytes version (front ++ part) ++ left)
    (apart _ _ s _ all _ part (check_bytes version (front ++ part)) left h)))

pub returns-clause-ok : goal.returns-clause-ok
returns-clause-ok g c = λ s all front left whole h.
    let part = past_bytes c.args.base.now.whole.counts c.args.folded.now in
    c.in_ok-write_check.ensures.ok s all (front ++ part) left (check_next all front part left whole)
    (c.in_ok-write_past.ensures.ok s all (check_bytes version (front ++ part) ++ left)
    (apart _ _ s _ all _ part (check_bytes version (front ++ part)) left h))

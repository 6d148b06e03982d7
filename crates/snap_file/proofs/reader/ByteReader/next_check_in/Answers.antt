use Rattle.std.proofs.lemmas.Result.{err_from_is_err_and}
use Rattle.snap_file.proofs.StopLemmas.{check_due, check_none}
use Rattle.snap_file.proofs.reader.ByteReader.next_check_in.Goals as goal

pub returns-then-file_version-lt-CHECKED_VERSION-clause-ok : goal.returns-then-file_version-lt-CHECKED_VERSION-clause-ok
returns-then-file_version-lt-CHECKED_VERSION-clause-ok g c = λ s m k h.
    check_none {S = g.row.R.Denot} g.R.Source.read_gives g.R.Source.failure_count m s c.args.r.now c.args.self.now
    c.args.file_version k c.if-file_version-lt-CHECKED_VERSION.true h

pub returns-in_err-next_check-clause-err : goal.returns-in_err-next_check-clause-err
returns-in_err-next_check-clause-err g c =
    let p = err_from_is_err_and c.from_residual.result c.from_residual.ensures.1 in rw (p.1, p.2) (λ s m k h.
    c.in_err-next_check.ensures.err s m k
    (check_due {S = g.row.R.Denot} g.R.Source.read_gives g.R.Source.failure_count m s c.args.r.now c.args.self.now
    c.args.file_version k c.if-file_version-lt-CHECKED_VERSION.false h))

pub returns-clause-ok : goal.returns-clause-ok
returns-clause-ok g c = λ s m k h.
    c.in_ok-next_check.ensures.ok s m k
    (check_due {S = g.row.R.Denot} g.R.Source.read_gives g.R.Source.failure_count m s c.args.r.now c.args.self.now
    c.args.file_version k c.if-file_version-lt-CHECKED_VERSION.false h)

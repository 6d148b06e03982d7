use Rattle.std.proofs.lemmas.Result.{err_from_is_err_and}
use Rattle.snap_file.proofs.OriginLemmas.{origin_there, origin_missing}
use Rattle.snap_file.proofs.head.read_origin.Goals as goal

pub returns-then-version-ne-VERSION-clause-ok : goal.returns-then-version-ne-VERSION-clause-ok
returns-then-version-ne-VERSION-clause-ok g c = rw c.unknown.ensures (λ s m k h.
    origin_missing {S = g.row.R.Denot} g.R.Source.read_gives g.R.Source.failure_count m s c.args.r.now
    c.args.reader.now c.args.version k c.if-version-ne-VERSION.true h)

pub returns-in_err-origin-clause-err : goal.returns-in_err-origin-clause-err
returns-in_err-origin-clause-err g c =
    let p = err_from_is_err_and c.from_residual.result c.from_residual.ensures.1 in
    rw (p.1, p.2) (λ s m k h.
    c.in_err-origin.ensures.err s m k (origin_there {S = g.row.R.Denot} g.R.Source.read_gives g.R.Source.failure_count
    m s c.args.r.now c.args.reader.now c.args.version k c.if-version-ne-VERSION.false h))

pub returns-clause-ok : goal.returns-clause-ok
returns-clause-ok g c = λ s m k h.
    c.in_ok-origin.ensures.ok s m k (origin_there {S = g.row.R.Denot} g.R.Source.read_gives g.R.Source.failure_count
    m s c.args.r.now c.args.reader.now c.args.version k c.if-version-ne-VERSION.false h)

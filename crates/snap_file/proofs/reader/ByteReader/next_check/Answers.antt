use Rattle.std.proofs.lemmas.Result.{err_from_is_err_and}
use Rattle.snap_file.specs.Outcomes.{IsOfBytes}
use Rattle.snap_file.specs.declared.fault.SnapFault.TheVariants.{BadCheck}
use Rattle.snap_file.proofs.StopLemmas.{stops_refused, read_passed, read_check}
use Rattle.snap_file.proofs.reader.ByteReader.next_check.Goals as goal

judged : IsOfBytes BadCheck
judged = (λ e. absurd cc, λ e. absurd cc)

pub returns-in_err-n-clause-err : goal.returns-in_err-n-clause-err
returns-in_err-n-clause-err g c =
    let p = err_from_is_err_and c.from_residual.result c.from_residual.ensures.1 in rw (p.1, p.2) (λ s m k h.
    c.in_err-n.ensures.err s m _ (read_check {S = g.row.R.Denot} g.R.Source.read_gives g.R.Source.failure_count m s
    c.args.r.now
    c.args.self.now c.sum-due.result k c.sum-due.ensures h))

pub returns-in_err-refuse-clause-err : goal.returns-in_err-refuse-clause-err
returns-in_err-refuse-clause-err g c =
    let p = err_from_is_err_and c.from_residual-in_err-refuse.result c.from_residual-in_err-refuse.ensures.1 in
    let x = c.in_err-refuse.ensures.err in
    rw (p.1, p.2, x.0) (λ s m k h.
    stops_refused {S = g.row.R.Denot} g.R.Source.read_gives g.R.Source.failure_count
    (g.R.Source.at_end c.next_u32.new.r) m s c.next_u32.new.r c.next_u32.new.self _ BadCheck _
    (c.in_ok-n.ensures.ok s m _ (read_check {S = g.row.R.Denot} g.R.Source.read_gives g.R.Source.failure_count m s
    c.args.r.now
    c.args.self.now c.sum-due.result k c.sum-due.ensures h)) x.1 judged)

pub returns-clause-ok : goal.returns-clause-ok
returns-clause-ok g c = λ s m k h.
    read_passed {S = g.row.R.Denot} g.R.Source.read_gives g.R.Source.failure_count m s c.next_u32.new.r
    c.next_u32.new.self _ BadCheck _
    (c.in_ok-n.ensures.ok s m _ (read_check {S = g.row.R.Denot} g.R.Source.read_gives g.R.Source.failure_count m s
    c.args.r.now
    c.args.self.now c.sum-due.result k c.sum-due.ensures h)) c.in_ok-refuse.ensures.ok

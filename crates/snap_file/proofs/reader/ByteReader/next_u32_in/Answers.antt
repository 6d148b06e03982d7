use Rattle.std.proofs.Common.{sym, ◌∙◌}
use Rattle.std.proofs.lemmas.Result.{err_from_is_err_and}
use Rattle.snap_file.proofs.Fields.{within}
use Rattle.snap_file.proofs.StopLemmas.{stops_refused, read_passed}
use Rattle.snap_file.proofs.reader.ByteReader.next_u32_in.Goals as goal

pub returns-in_err-n-clause-err : goal.returns-in_err-n-clause-err
returns-in_err-n-clause-err g c =
    let p = err_from_is_err_and c.from_residual.result c.from_residual.ensures.1 in rw (p.1, p.2) (λ s m k h.
    c.in_err-n.ensures.err s m _ h)

pub returns-in_err-refuse-clause-err : goal.returns-in_err-refuse-clause-err
returns-in_err-refuse-clause-err g c =
    let p = err_from_is_err_and c.from_residual-in_err-refuse.result c.from_residual-in_err-refuse.ensures.1 in
    let x = c.in_err-refuse.ensures.err in
    rw (p.1, p.2, x.0) (λ s m k h.
    stops_refused {S = g.row.R.Denot} g.R.Source.read_gives g.R.Source.failure_count
    (g.R.Source.at_end c.next_u32.new.r) m s c.next_u32.new.r c.next_u32.new.self _ c.args.kind _
    (c.in_ok-n.ensures.ok s m _ h) (sym c.is_outside-wrong.ensures ∙ x.1) c.requires.judged)

pub returns-clause-ok : goal.returns-clause-ok
returns-clause-ok g c = λ s m k h.
    read_passed {S = g.row.R.Denot} g.R.Source.read_gives g.R.Source.failure_count m s c.next_u32.new.r
    c.next_u32.new.self _ c.args.kind _
    (c.in_ok-n.ensures.ok s m _ h) (sym c.is_outside-wrong.ensures ∙ c.in_ok-refuse.ensures.ok)

pub returns-clause-bounds : goal.returns-clause-bounds
returns-clause-bounds g c = within c.args.low c.args.high c.in_ok-n.n
    (sym c.is_outside-wrong.ensures ∙ c.in_ok-refuse.ensures.ok)

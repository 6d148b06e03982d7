use Rattle.std.proofs.Common.{sym}
use Rattle.snap_file.proofs.AheadLemmas.{takes_cell}
use Rattle.snap_file.proofs.tally.read_cell.Goals as goal

pub returns-then-take_ahead-clause-ok : goal.returns-then-take_ahead-clause-ok
returns-then-take_ahead-clause-ok g c = λ s m n done k h.
    takes_cell {S = g.row.R.Denot} g.R.Source.read_gives g.R.Source.failure_count m s c.args.r.now c.args.head.now
    c.args.most n c.args.reader.now c.take_ahead.new.reader c.args.tally.now c.take_ahead.new.tally done k
    (c.take_ahead.ensures.taken c.if-take_ahead.true) h

pub returns-clause-ok : goal.returns-clause-ok
returns-clause-ok g c =
    let l = c.take_ahead.ensures.left c.if-take_ahead.false in rw (sym l.0, sym l.1) c.read_fields.ensures.ok

pub returns-clause-err : goal.returns-clause-err
returns-clause-err g c =
    let l = c.take_ahead.ensures.left c.if-take_ahead.false in rw (sym l.0, sym l.1) c.read_fields.ensures.err

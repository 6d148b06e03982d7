use Rattle.std.proofs.Common.{ℕ, subst}
use Rattle.log_read.specs.Outcomes.{HasReadAll, HasStopped}
use Rattle.log_read.proofs.read.read_pages.Goals as goal

pub returns-in-Err-clause-err : goal.returns-in-Err-clause-err
returns-in-Err-clause-err g c = λ s h x.
    subst (λ (n : ℕ). HasStopped {S = g.row.R.Denot} g.R.Source.read_gives g.R.Source.failure_count
    (g.R.Source.at_end c.take_next.new.r) n s c.take_next.new.r c.take_next.new.source c.in-Err.stop)
    c.pages.invariant.limit
    (c.in-Err.ensures.err s h (c.pages.invariant.read s h x))

pub returns-in-Ok-false-clause-ok : goal.returns-in-Ok-false-clause-ok
returns-in-Ok-false-clause-ok g c = λ s h x.
    subst (λ (n : ℕ). HasReadAll {S = g.row.R.Denot} g.R.Source.read_gives g.R.Source.failure_count
    (g.R.Source.at_end c.take_next.new.r) n s c.take_next.new.r h c.take_next.new.log) c.pages.invariant.limit
    (c.in-Ok-false.ensures.end c.in-Ok-false.field-0-test s h (c.pages.invariant.read s h x))

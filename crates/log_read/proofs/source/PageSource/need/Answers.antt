use Rattle.std.proofs.Common.{ℕ, subst}
use Rattle.log_read.specs.Given.{HasFailed}
use Rattle.log_read.proofs.source.PageSource.need.Goals as goal

pub returns-in-Err-clause-err : goal.returns-in-Err-clause-err
returns-in-Err-clause-err g c = λ s done at.
    subst (λ (n : ℕ). HasFailed {S = g.row.R.Denot} g.R.Source.read_gives g.R.Source.failure_count n s c.fill.new.r
    c.in-Err.kind) c.pieces.invariant.limit (c.in-Err.ensures.err s done (c.pieces.invariant.read s done at))

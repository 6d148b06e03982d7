use Rattle.std.proofs.Common.{sym}
use Rattle.log_read.proofs.GivenLemmas.{next_piece}
use Rattle.log_read.proofs.source.PageSource.next.Goals as goal

pub returns-in-Ok-clause-ok : goal.returns-in-Ok-clause-ok
returns-in-Ok-clause-ok g c = λ s done at.
    let h = c.hand_on.ensures in
    next_piece {S = g.row.R.Denot} g.R.Source.read_gives g.R.Source.failure_count (g.R.Source.at_end c.need.new.r) s
    c.need.new.r c.need.new.self c.hand_on.new.self done c.hand_on.new.page c.hand_on.result h.within h.short h.buffer
    h.came
    h.limit h.same c.in-Ok.field-0 h.long c.in-Ok.ensures.long c.in-Ok.ensures.short
    (λ b. c.in-Ok.ensures.yes b s done at)
    (λ b. (_, sym c.in-Ok.ensures.limit, c.in-Ok.ensures.no b s done at))

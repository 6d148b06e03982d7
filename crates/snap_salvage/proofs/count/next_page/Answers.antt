use Rattle.snap_salvage.proofs.SumLemmas.{next_read}
use Rattle.snap_salvage.proofs.count.next_page.Goals as goal

pub returns-in-Ok-clause-next : goal.returns-in-Ok-clause-next
returns-in-Ok-clause-next g c = λ s done was.
    next_read g.S.Source.read_gives s c.need_page.new.source c.need_page.new.buffer c.hand_on.new.buffer done
    c.hand_on.new.page c.hand_on.result (c.in-Ok.ensures.read s done was) c.hand_on.ensures.within
    c.hand_on.ensures.buffer c.hand_on.ensures.same

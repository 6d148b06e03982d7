use Rattle.std.proofs.Common.{[], arith}
use Rattle.log_read.proofs.ReadLemmas.{source_failed, truncated, head_read, head_refused}
use Rattle.log_read.proofs.read.read_head.Goals as goal

pub returns-in-Err-clause-err : goal.returns-in-Err-clause-err
returns-in-Err-clause-err g c = λ s at.
    source_failed {S = g.row.R.Denot} g.R.Source.read_gives g.R.Source.failure_count (g.R.Source.at_end c.next.new.r)
    c.args.source.now.max_bytes s c.next.new.r c.in-Err.kind c.of_source.result _ c.of_source.ensures.kind
    c.of_source.ensures.page c.in-Err.ensures.limit
    (c.in-Err.ensures.err s [] at)

pub returns-then-count-lt-PAGE-clause-err : goal.returns-then-count-lt-PAGE-clause-err
returns-then-count-lt-PAGE-clause-err g c = λ s at.
    truncated {S = g.row.R.Denot} g.R.Source.read_gives g.R.Source.failure_count (g.R.Source.at_end c.next.new.r)
    c.args.source.now.max_bytes s c.next.new.r c.next.new.self c.in-Ok.count c.next.new.page c.in-Ok.ensures.long
    (c.in-Ok.ensures.ok s [] at) c.at_head.result c.at_head.ensures.kind c.at_head.ensures.page c.in-Ok.ensures.limit
    (omega (arith, c.if-count-lt-PAGE.true))

pub returns-in-Ok-head_of-clause-ok : goal.returns-in-Ok-head_of-clause-ok
returns-in-Ok-head_of-clause-ok g c = λ s at.
    head_read {S = g.row.R.Denot} g.R.Source.read_gives g.R.Source.failure_count (g.R.Source.at_end c.next.new.r)
    c.args.source.now.max_bytes s c.next.new.r c.next.new.self c.in-Ok.count c.next.new.page c.in-Ok.ensures.long
    (c.in-Ok.ensures.ok s [] at) c.in-Ok-head_of.head c.in-Ok-head_of.ensures.ok
    (omega (arith, c.if-count-lt-PAGE.false, c.in-Ok.ensures.most))

pub returns-in-Err-head_of-clause-err : goal.returns-in-Err-head_of-clause-err
returns-in-Err-head_of-clause-err g c = λ s at.
    head_refused {S = g.row.R.Denot} g.R.Source.read_gives g.R.Source.failure_count (g.R.Source.at_end c.next.new.r)
    c.args.source.now.max_bytes s c.next.new.r c.next.new.self c.in-Ok.count c.next.new.page c.in-Ok.ensures.long
    (c.in-Ok.ensures.ok s [] at) c.in-Err-head_of.fault c.in-Err-head_of.ensures.err.0 c.in-Err-head_of.ensures.err.1
    (omega (arith, c.if-count-lt-PAGE.false, c.in-Ok.ensures.most))

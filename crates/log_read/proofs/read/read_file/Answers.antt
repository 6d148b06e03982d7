use Rattle.std.proofs.Common.{ℕ, subst}
use Rattle.log_read.specs.Outcomes.{HasReadAll, HasStopped}
use Rattle.log_read.proofs.ReadLemmas.{begins_behind, log_read}
use Rattle.log_read.proofs.read.read_file.Goals as goal

pub returns-in-Err-read_pages-clause-err : goal.returns-in-Err-read_pages-clause-err
returns-in-Err-read_pages-clause-err g c = λ s at.
    subst (λ (n : ℕ). HasStopped {S = g.row.R.Denot} g.R.Source.read_gives g.R.Source.failure_count
    (g.R.Source.at_end c.read_pages.new.r) n s c.read_pages.new.r c.read_pages.new.source c.in-Err-read_pages.stop)
    c.in-Ok.ensures.limit
    (c.in-Err-read_pages.ensures.err s c.in-Ok.head
    (begins_behind {S = g.row.R.Denot} g.R.Source.read_gives g.R.Source.failure_count
    (g.R.Source.at_end c.read_pages.new.r)
    c.args.source.now.max_bytes s c.read_head.new.r c.read_head.new.source c.in-Ok.head c.in-Ok-new.log
    (c.in-Ok.ensures.ok s at) c.in-Ok-new.ensures.setup c.in-Ok-new.ensures.come))

pub returns-in-Ok-read_pages-clause-ok : goal.returns-in-Ok-read_pages-clause-ok
returns-in-Ok-read_pages-clause-ok g c = λ s at.
    log_read {S = g.row.R.Denot} g.R.Source.read_gives g.R.Source.failure_count (g.R.Source.at_end c.read_pages.new.r)
    c.args.source.now.max_bytes s c.read_pages.new.r _ c.read_pages.new.log
    (subst (λ (n : ℕ). HasReadAll {S = g.row.R.Denot} g.R.Source.read_gives g.R.Source.failure_count
    (g.R.Source.at_end c.read_pages.new.r) n s c.read_pages.new.r c.in-Ok.head c.read_pages.new.log)
    c.in-Ok.ensures.limit
    (c.in-Ok-read_pages.ensures.ok s c.in-Ok.head
    (begins_behind {S = g.row.R.Denot} g.R.Source.read_gives g.R.Source.failure_count
    (g.R.Source.at_end c.read_pages.new.r)
    c.args.source.now.max_bytes s c.read_head.new.r c.read_head.new.source c.in-Ok.head c.in-Ok-new.log
    (c.in-Ok.ensures.ok s at) c.in-Ok-new.ensures.setup c.in-Ok-new.ensures.come)))
    c.finish-blocks.ensures.blocks c.finish-blocks.ensures.rest

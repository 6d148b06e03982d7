use Rattle.std.proofs.Common.{◌++◌, inl, inr, arith}
use Rattle.log_blocks.specs.Files.{pages_of}
use Rattle.log_read.proofs.ReadLemmas.{all_of, few_of, source_failed, read_to_end, page_taken, last_taken, last_refused}
use Rattle.log_read.proofs.ReadLemmas.{page_refused}
use Rattle.log_read.proofs.read.take_next.Goals as goal

pub returns-in-Err-clause-err : goal.returns-in-Err-clause-err
returns-in-Err-clause-err g c = λ s h x.
    source_failed {S = g.row.R.Denot} g.R.Source.read_gives g.R.Source.failure_count (g.R.Source.at_end c.next.new.r)
    c.args.source.now.max_bytes s c.next.new.r c.in-Err.kind c.of_source.result _ c.of_source.ensures.kind
    c.of_source.ensures.page c.in-Err.ensures.limit
    (c.in-Err.ensures.err s (x.page ++ x.behind) x.at)

pub returns-in-Ok-eq0-clause-end : goal.returns-in-Ok-eq0-clause-end
returns-in-Ok-eq0-clause-end g c = λ last s h x.
    read_to_end {S = g.row.R.Denot} g.R.Source.read_gives g.R.Source.failure_count (g.R.Source.at_end c.next.new.r)
    c.args.source.now.max_bytes s c.args.r.now c.next.new.r c.args.source.now c.next.new.self h c.args.log.now x
    c.in-Ok-eq0.field-0 c.next.new.page c.in-Ok-eq0.ensures.long
    (c.in-Ok-eq0.ensures.ok s (x.page ++ x.behind) x.at) (omega arith) c.in-Ok-eq0.ensures.limit

pub returns-in-Ok-take-clause-more : goal.returns-in-Ok-take-clause-more
returns-in-Ok-take-clause-more g c = λ more s h x.
    page_taken {S = g.row.R.Denot} g.R.Source.read_gives g.R.Source.failure_count (g.R.Source.at_end c.next.new.r)
    c.args.source.now.max_bytes s c.args.r.now c.next.new.r c.args.source.now c.next.new.self h c.args.log.now x
    c.in-Ok.count c.next.new.page c.in-Ok.ensures.long
    (c.in-Ok.ensures.ok s (x.page ++ x.behind) x.at)
    c.take.new.self c.in-Ok-take.ensures.setup (c.in-Ok-take.ensures.ok h.first (pages_of 0 x.count x.behind) x.come)
    (all_of c.in-Ok.count more)

pub returns-in-Ok-take-clause-end : goal.returns-in-Ok-take-clause-end
returns-in-Ok-take-clause-end g c = λ last s h x.
    last_taken {S = g.row.R.Denot} g.R.Source.read_gives g.R.Source.failure_count (g.R.Source.at_end c.next.new.r)
    c.args.source.now.max_bytes s c.args.r.now c.next.new.r c.args.source.now c.next.new.self h c.args.log.now x
    c.in-Ok.count c.next.new.page c.in-Ok.ensures.long
    (c.in-Ok.ensures.ok s (x.page ++ x.behind) x.at)
    c.take.new.self c.in-Ok-take.ensures.setup (c.in-Ok-take.ensures.ok h.first (pages_of 0 x.count x.behind) x.come)
    c.in-Ok.ensures.limit (few_of c.in-Ok.count c.in-Ok.ensures.most last) (omega (arith, c.in-Ok.count-test))

pub returns-then-is_memory-clause-err : goal.returns-then-is_memory-clause-err
returns-then-is_memory-clause-err g c = λ s h x. inl (c.is_memory.ensures.yes c.if-is_memory.true)

pub returns-then-count-lt-PAGE-clause-err : goal.returns-then-count-lt-PAGE-clause-err
returns-then-count-lt-PAGE-clause-err g c = λ s h x.
    elim c.in-Err-take.ensures.err [
      | inl memory ↦ inl memory
      | inr wrong ↦
          last_refused {S = g.row.R.Denot} g.R.Source.read_gives g.R.Source.failure_count
          (g.R.Source.at_end c.next.new.r)
          c.args.source.now.max_bytes s c.args.r.now c.next.new.r c.args.source.now c.next.new.self h c.args.log.now x
          c.in-Ok.count c.next.new.page c.in-Ok.ensures.long
          (c.in-Ok.ensures.ok s (x.page ++ x.behind) x.at)
          c.in-Err-take.fault (λ rest. wrong h.first (pages_of 0 x.count x.behind) rest x.come) c.in-Ok.ensures.limit
          (omega (arith, c.if-count-lt-PAGE.true)) (omega (arith, c.in-Ok.count-test))
    ]

pub returns-else-count-lt-PAGE-clause-err : goal.returns-else-count-lt-PAGE-clause-err
returns-else-count-lt-PAGE-clause-err g c = λ s h x.
    elim c.in-Err-take.ensures.err [
      | inl memory ↦ absurd (c.is_memory.ensures.no c.if-is_memory.false memory)
      | inr wrong ↦
          page_refused {S = g.row.R.Denot} g.R.Source.read_gives g.R.Source.failure_count
          (g.R.Source.at_end c.next.new.r)
          c.args.source.now.max_bytes s c.args.r.now c.next.new.r c.args.source.now c.next.new.self h c.args.log.now x
          c.in-Ok.count c.next.new.page c.in-Ok.ensures.long
          (c.in-Ok.ensures.ok s (x.page ++ x.behind) x.at)
          c.in-Err-take.fault (λ rest. wrong h.first (pages_of 0 x.count x.behind) rest x.come)
          (omega (arith, c.if-count-lt-PAGE.false, c.in-Ok.ensures.most))
    ]

use Rattle.std.proofs.Common.{ap, arith, refl, ◌∙◌}
use Rattle.snap_salvage.specs.declared.left.Left.{Left}
use Rattle.snap_salvage.proofs.SumLemmas.{counted_all, counted_last, counted_more, counted_none, counting_more}
use Rattle.snap_salvage.proofs.SumLemmas.{counting_none}
use Rattle.snap_salvage.proofs.count.count_pages.Goals as goal

pub pages-init : goal.pages-init
pages-init g c =
    let none = c.none-left.result in
    let is = c.none-left.ensures in
    record {
      counting = counting_none g.S.Source.read_gives c.args.source.now c.in-Ok.buffer none c.in-Ok.ensures is;
      counted = counted_none none is;
      pages = omega (arith, ap (λ (l : Left). l.pages) is);
      whole = omega (arith, ap (λ (l : Left). l.whole) is);
      batches = omega (arith, ap (λ (l : Left). l.batches) is);
      failures = refl;
    }

pub returns-in-Ok-eq0-clause-ok : goal.returns-in-Ok-eq0-clause-ok
returns-in-Ok-eq0-clause-ok g c =
    let was = c.pages.invariant.counting in
    let end = c.in-Ok-eq0.ensures.end (omega (arith, c.in-Ok-eq0.field-0-test)) in
    counted_all g.S.Source.read_gives c.args.source.now c.pages.source c.next_page.new.source c.pages.buffer
    c.next_page.new.buffer c.pages._i c.in-Ok-eq0.field-0 c.next_page.new.page c.pages.left was
    (c.in-Ok-eq0.ensures.next c.args.source.now was.done was.read) (g.S.Source.at_end c.next_page.new.source) end.0 end.1
    (omega (arith, c.in-Ok-eq0.field-0-test))

pub returns-then-count-lt-PAGE-clause-ok : goal.returns-then-count-lt-PAGE-clause-ok
returns-then-count-lt-PAGE-clause-ok g c =
    let was = c.pages.invariant.counting in
    let next = c.in-Ok-next_page.ensures in
    let end = next.end c.if-count-lt-PAGE.true in
    counted_last g.S.Source.read_gives c.args.source.now c.pages.source c.next_page.new.source c.pages.buffer
    c.next_page.new.buffer c.pages._i c.in-Ok-next_page.count c.next_page.new.page c.pages.left c.with-left.result was
    (next.next c.args.source.now was.done was.read) next.long c.with-left.ensures.is
    (g.S.Source.at_end c.next_page.new.source) end.0 end.1 (omega (arith, c.in-Ok-next_page.count-test))
    c.if-count-lt-PAGE.true

pub returns-then-count-lt-PAGE-clause-counted : goal.returns-then-count-lt-PAGE-clause-counted
returns-then-count-lt-PAGE-clause-counted g c =
    counted_more c.pages.left c.with-left.result c.next_page.new.page c.pages.invariant.counted
    c.in-Ok-next_page.ensures.long c.in-Ok-next_page.ensures.bytes c.with-left.ensures.is

pub pages-preserved : goal.pages-preserved
pages-preserved g c =
    let more = c.with-left.ensures in
    let was = c.pages.invariant in
    let next = c.in-Ok-next_page.ensures in
    record {
      counting = counting_more g.S.Source.read_gives c.args.source.now c.pages.source c.next_page.new.source
          c.pages.buffer c.next_page.new.buffer c.pages._i c.in-Ok-next_page.count c.next_page.new.page c.pages.left
          c.with-left.result was.counting (next.next c.args.source.now was.counting.done was.counting.read) next.long
          more.is (omega (arith, next.most, c.if-count-lt-PAGE.false));
      counted = counted_more c.pages.left c.with-left.result c.next_page.new.page was.counted next.long next.bytes
          more.is;
      pages = omega (arith, more.pages, was.pages);
      whole = omega (arith, more.whole, was.whole);
      batches = omega (arith, more.batches, was.batches);
      failures = next.no_failure ∙ was.failures;
    }

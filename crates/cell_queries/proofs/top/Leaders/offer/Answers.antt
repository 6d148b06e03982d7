use Rattle.std.proofs.Common.{sym, subst}
use Rattle.std.proofs.lemmas.Result.{on_ok_weaker}
use Rattle.std.specs.BinaryHeap.{heap_items}
use Rattle.cell_queries.specs.Heaps.{AreLed, Leading}
use Rattle.cell_queries.proofs.TopLaws.{led_more}
use Rattle.cell_queries.proofs.top.Leaders.offer.Goals as goal

pub returns : goal.returns
returns c = λ by most rows led.
    let old : Leading =
    record { by = c.self.inside.by; most = c.self.inside.most; items = heap_items c.self.inside.heap } in
    on_ok_weaker c.offer.result (λ offered.
    led_more by most rows old (heap_items c.offer.new.heap) c.args.row c.ranked.result
    (subst (AreLed by most rows) (sym c.self.view_is) led) c.ranked.ensures offered) c.offer.ensures.offered

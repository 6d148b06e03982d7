use Rattle.std.proofs.Common.{◌≡◌, ◌<◌, ◌≤◌, length, get_or, true, sym, ◌∙◌, arith}
use Rattle.std.specs.BinaryHeap.{heap_items, heap_len}
use Rattle.std.specs.Ordering.{is_lt}
use Rattle.cell_queries.specs.declared.top.Ranked.{Ranked}
use Rattle.cell_queries.specs.Heaps.{ranked_cmp}
use Rattle.cell_queries.proofs.TopLaws.{copied_some, not_ge, some_there, takes_place}
use Rattle.cell_queries.proofs.top.offer.Goals as goal

pub returns-clause-offered : goal.returns-clause-offered
returns-clause-offered c =
    let last : Ranked = c.in-Some.last in
    let pos : 0 < heap_len c.args.heap.now =
    c.peek.ensures.variant.0 (some_there c.peek.result last (sym c.in-Some.ensures)) in
    let some : 0 < length (heap_items c.args.heap.now) = omega arith in
    let full : c.args.most ≤ length (heap_items c.args.heap.now) = omega arith in
    let less : is_lt (ranked_cmp c.args.row last) ≡ true =
    not_ge (ranked_cmp c.args.row last) (sym c.ge.ensures ∙ c.if-ge.false) in
    takes_place c.args.most (heap_len c.args.heap.now) c.args.row last (heap_items c.args.heap.now)
    (heap_items c.pop.new.self) (heap_items c.push-2.new.self) c.pop.result c.requires full some pos c.pop.ensures.top
    c.pop.ensures.permutation c.pop.ensures.heap_order c.pop.ensures.none
    (copied_some (λ y. y ≡ get_or (heap_items c.args.heap.now) 0 y) c.peek.result last (sym c.in-Some.ensures)
    c.peek.ensures.lookup) less c.in_ok-push-2.ensures.permutation

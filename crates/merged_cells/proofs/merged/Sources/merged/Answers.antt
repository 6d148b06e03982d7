use Rattle.std.proofs.Common.{◌≡◌, ◌∙◌, arith}
use Rattle.std.specs.BinaryHeap.{heap_items, heap_len}
use Rattle.std.proofs.lemmas.Option.{MatchOption-at_none}
use Rattle.merged_cells.proofs.MergeLaws.{begun}
use Rattle.merged_cells.proofs.merged.Sources.merged.Goals as goal

pub invariant_of-result : goal.invariant_of-result
invariant_of-result c =
    (begun c.self.inside.bound (heap_items c.self.inside.fronts) c.pop-first.result (heap_items c.pop-first.new.self)
    c.self.invariant c.pop-first.ensures.permutation c.pop-first.ensures.heap_order c.pop-first.ensures.below_top
    (λ e. let none : heap_len c.self.inside.fronts ≡ 0 = MatchOption-at_none _ _ e c.pop-first.ensures.none in
    omega arith)
    (λ e. (MatchOption-at_none _ _ e c.pop-first.ensures.unchanged).0)).0

pub returns : goal.returns
returns c =
    (begun c.self.inside.bound (heap_items c.self.inside.fronts) c.pop-first.result (heap_items c.pop-first.new.self)
    c.self.invariant c.pop-first.ensures.permutation c.pop-first.ensures.heap_order c.pop-first.ensures.below_top
    (λ e. let none : heap_len c.self.inside.fronts ≡ 0 = MatchOption-at_none _ _ e c.pop-first.ensures.none in
    omega arith)
    (λ e. (MatchOption-at_none _ _ e c.pop-first.ensures.unchanged).0)).1 ∙ c.self.view_is

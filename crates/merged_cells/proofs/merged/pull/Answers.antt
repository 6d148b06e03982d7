use Rattle.std.proofs.Common.{◌≡◌, Option, Some, sym, subst, arith}
use Rattle.std.specs.BinaryHeap.{heap_items, heap_len}
use Rattle.std.proofs.lemmas.Option.{MatchOption-at_none}
use Rattle.merged_cells.specs.declared.front.Front.{Front}
use Rattle.merged_cells.specs.Fronts.{AreFronts, Pulls}
use Rattle.merged_cells.proofs.FrontLaws.{moved_on, ended}
use Rattle.merged_cells.proofs.merged.pull.Goals as goal

pub returns-then-advance : goal.returns-then-advance
returns-then-advance c =
    let f = c.in_ok-front.front in
    let fs = heap_items c.args.others.now in
    let gs = heap_items c.exchanged.new.others in
    let was : Some f ≡ c.args.first.now = c.in_ok-front.ensures.value in
    subst (λ (o : Option Front). Pulls o fs f.cell (Some c.exchanged.result) gs) was
    (moved_on f c.advance.new.self c.exchanged.result fs gs
    (subst (λ (o : Option Front). AreFronts o fs) (sym was) c.requires)
    c.if-advance.ensures c.exchanged.ensures.same c.exchanged.ensures.heap c.exchanged.ensures.least)

pub returns-else-advance : goal.returns-else-advance
returns-else-advance c =
    let f = c.in_ok-front.front in
    let fs = heap_items c.args.others.now in
    let gs = heap_items c.pop.new.self in
    let was : Some f ≡ c.args.first.now = c.in_ok-front.ensures.value in
    subst (λ (o : Option Front). Pulls o fs f.cell c.pop.result gs) was
    (ended f fs c.pop.result gs (subst (λ (o : Option Front). AreFronts o fs) (sym was) c.requires) c.if-advance.ensures
    c.pop.ensures.permutation c.pop.ensures.heap_order c.pop.ensures.below_top
    (λ e. let none : heap_len c.args.others.now ≡ 0 = MatchOption-at_none _ _ e c.pop.ensures.none in omega arith)
    (λ e. (MatchOption-at_none _ _ e c.pop.ensures.unchanged).0))

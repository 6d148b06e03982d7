use Rattle.std.proofs.Common.{◌≡◌, Option, Some, sym, subst, arith}
use Rattle.std.specs.BinaryHeap.{heap_items, heap_len}
use Rattle.std.proofs.lemmas.Option.{MatchOption-at_none}
use Rattle.merged_cells.specs.declared.front.Front.{Front}
use Rattle.merged_cells.specs.Fronts.{AreFronts, IsFrontBefore, Skips}
use Rattle.merged_cells.proofs.SkipLaws.{skipped_on, skipped_all}
use Rattle.merged_cells.proofs.merged.skip_first.Goals as goal

pub returns-then-skip_to : goal.returns-then-skip_to
returns-then-skip_to c =
    let f = c.in-Some.front in
    let p = c.args.place in
    let fs = heap_items c.args.others.now in
    let gs = heap_items c.exchanged.new.others in
    let was : Some f ≡ c.args.first.now = c.in-Some.ensures.value in
    subst (λ (o : Option Front). Skips p o fs (Some c.exchanged.result) gs) was
    (skipped_on p f c.skip_to.new.self c.exchanged.result fs gs
    (subst (λ (o : Option Front). AreFronts o fs) (sym was) c.requires.kept)
    (subst (IsFrontBefore p) (sym was) c.requires.before) c.if-skip_to.ensures c.exchanged.ensures.same
    c.exchanged.ensures.heap c.exchanged.ensures.least)

pub returns-else-skip_to : goal.returns-else-skip_to
returns-else-skip_to c =
    let f = c.in-Some.front in
    let p = c.args.place in
    let fs = heap_items c.args.others.now in
    let gs = heap_items c.pop.new.self in
    let was : Some f ≡ c.args.first.now = c.in-Some.ensures.value in
    subst (λ (o : Option Front). Skips p o fs c.pop.result gs) was
    (skipped_all p f fs c.pop.result gs (subst (λ (o : Option Front). AreFronts o fs) (sym was) c.requires.kept)
    (subst (IsFrontBefore p) (sym was) c.requires.before) c.if-skip_to.ensures
    c.pop.ensures.permutation c.pop.ensures.heap_order c.pop.ensures.below_top
    (λ e. let none : heap_len c.args.others.now ≡ 0 = MatchOption-at_none _ _ e c.pop.ensures.none in omega arith)
    (λ e. (MatchOption-at_none _ _ e c.pop.ensures.unchanged).0))

use Rattle.std.proofs.Common.{◌≡◌, sym, ◌∙◌, subst, arith}
use Rattle.std.specs.BinaryHeap.{heap_items}
use Rattle.std.specs.FinMap.{entries}
use Rattle.std.specs.List.{AllByRecursion}
use Rattle.hyper_matrix.specs.Counts.{Place, Counts, ewise_add}
use Rattle.hyper_matrix.specs.Shared.{LiesWithin}
use Rattle.merged_cells.specs.declared.front.Front.{Front}
use Rattle.merged_cells.specs.Fronts.{fronts_sum}
use Rattle.merged_cells.proofs.MergeLaws.{source_added, nothing_added, more_sources, places_of_add}
use Rattle.merged_cells.proofs.merged.Sources.add.Goals as goal

pub returns-in_default-next-clause-sum : goal.returns-in_default-next-clause-sum
returns-in_default-next-clause-sum c =
    nothing_added c.args.self.now c.args.m.now.counts
    (sym c.iter-rest.ensures.order ∙ c.in_default-next.ensures.steps.0)

pub invariant_of-self : goal.invariant_of-self
invariant_of-self c =
    let f : Front = record { cell = c.in-Some-next.cell; rest = c.next.new.self } in
    more_sources c.self.inside.bound c.in-Some.bound f (heap_items c.self.inside.fronts) (heap_items c.push.new.self)
    c.args.m.now.counts c.self.invariant c.in-Ok.ensures.permutation c.in-Ok.ensures.heap_order
    (sym c.iter-rest.ensures.order ∙ c.in-Some-next.ensures.steps) (omega arith)

pub returns-in-Ok-clause-sum : goal.returns-in-Ok-clause-sum
returns-in-Ok-clause-sum c =
    let f : Front = record { cell = c.in-Some-next.cell; rest = c.next.new.self } in
    source_added f (heap_items c.self.inside.fronts) (heap_items c.push.new.self) c.args.self.now c.args.m.now.counts
    c.in-Ok.ensures.permutation c.self.view_is (sym c.iter-rest.ensures.order ∙ c.in-Some-next.ensures.steps)

pub returns-in-Ok-clause-within : goal.returns-in-Ok-clause-within
returns-in-Ok-clause-within c =
    let f : Front = record { cell = c.in-Some-next.cell; rest = c.next.new.self } in
    let old = c.args.self.now in
    let m = c.args.m.now in
    let sum : fronts_sum (heap_items c.push.new.self) ≡ ewise_add old m.counts =
    source_added f (heap_items c.self.inside.fronts) (heap_items c.push.new.self) old m.counts
    c.in-Ok.ensures.permutation c.self.view_is (sym c.iter-rest.ensures.order ∙ c.in-Some-next.ensures.steps) in
    let own : AllByRecursion (LiesWithin m.rows m.cols) (entries m.counts) =
    subst (AllByRecursion (LiesWithin m.rows m.cols)) c.iter-rest.ensures.order c.iter-rest.ensures.within in
    λ rows cols all r k.
    subst (λ (s : Counts). AllByRecursion (LiesWithin rows cols) (entries s)) (sym sum)
    (places_of_add (λ (p : Place). LiesWithin rows cols (p, 0)) old m.counts all
    (subst (λ n. AllByRecursion (LiesWithin rows n) (entries m.counts)) k
    (subst (λ n. AllByRecursion (LiesWithin n m.cols) (entries m.counts)) r own)))

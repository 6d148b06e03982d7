use Rattle.std.proofs.Common.{◌≡◌, ◌<◌, ◌∷◌, false, subst, refl, sym, ◌∙◌, arith}
use Rattle.std.specs.Ordering.{is_lt}
use Rattle.std.specs.BinaryHeap.{heap_items, heap_len}
use Rattle.std.proofs.lemmas.Bool.{false≢true}
use Rattle.hyper_matrix.specs.Counts.{place_cmp}
use Rattle.hyper_matrix.specs.Cells.{place_of}
use Rattle.merged_cells.specs.declared.front.Front.{Front}
use Rattle.merged_cells.specs.Fronts.{NoneBefore}
use Rattle.merged_cells.proofs.OrderLaws.{all_permuted, first_of_all, not_before, behind_not_before, turned}
use Rattle.merged_cells.proofs.FrontLaws.{crossed, none_before, no_items, empty_len}
use Rattle.merged_cells.proofs.merged.exchanged.Goals.{in-Some, in-None}
use Rattle.merged_cells.proofs.merged.exchanged.Goals as goal

pub returns-then-not-is_before-clause-least : goal.returns-then-not-is_before-clause-least
returns-then-not-is_before-clause-least c =
    let p = place_of c.args.front.cell in
    let fs = heap_items c.args.others.now in
    elim c.match-peek.branch [
      | in-Some w ↦
          let q = place_of w.in-Some.other.now.cell in
          none_before p q
          (sym (turned p q) ∙ sym w.gt-is_before.ensures ∙ sym w.is_before-is ∙ c.if-not-is_before.true) fs
          (w.in-Some.ensures.greatest c.requires)
      | in-None w ↦
          let none : heap_len c.args.others.now ≡ 0 = empty_len _ w.in-None.ensures.variant.1 in
          subst (NoneBefore p) (sym (no_items fs (omega arith))) tt
    ]

pub returns-clause-same : goal.returns-clause-same
returns-clause-same c = crossed _ _ _ _ _ c.in-Some-pop.ensures.permutation c.in-Ok.ensures.permutation

pub returns-clause-least : goal.returns-clause-least
returns-clause-least c =
    let p = place_of c.args.front.cell in
    let x = place_of c.in-Some-pop.other.cell in
    let fs = heap_items c.args.others.now in
    let mid = heap_items c.pop.new.self in
    let front_behind : is_lt (place_cmp p x) ≡ false = elim c.match-peek.branch [
      | in-Some w ↦
          let y = w.in-Some.other.now in
          let some : 0 < heap_len c.args.others.now = w.in-Some.ensures.variant.0 refl in
          not_before x (place_of y.cell) p
          (first_of_all (λ (f : Front). is_lt (place_cmp (place_of f.cell) x) ≡ false) fs y (omega arith)
          w.in-Some.ensures.lookup (c.in-Some-pop.ensures.heap_order c.requires).1)
          (behind_not_before p (place_of y.cell) (sym w.gt-is_before.ensures ∙ sym w.is_before-is ∙
          c.if-not-is_before.false))
      | in-None w ↦ absurd (false≢true (sym w.is_before-is ∙ c.if-not-is_before.false))
    ] in
    all_permuted (λ (f : Front). is_lt (place_cmp (place_of f.cell) x) ≡ false) (c.args.front ∷ mid)
    (heap_items c.push.new.self) c.in-Ok.ensures.permutation (front_behind, c.in-Some-pop.ensures.below_top c.requires)

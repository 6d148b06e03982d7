use Rattle.std.proofs.Common.{◌-◌, ◌++◌, ◌∙◌, ap, take, get_or, subst, arith}
use Rattle.std.proofs.lemmas.List.{get_or_default}
use Rattle.cells.specs.declared.cell.Cell.{Cell}
use Rattle.cells.specs.Order.{Precedes}
use Rattle.hyper_matrix.proofs.ListMergeLaws.{sums_none, sums_run, sums_run_right}
use Rattle.hyper_matrix.proofs.merge.push_front.Goals as goal

abbrev none : Cell
none = record { row = 0; col = 0; count = 0 }

pub returns-then-is_empty-clause-sums : goal.returns-then-is_empty-clause-sums
returns-then-is_empty-clause-sums c = sums_none c.args.out.now.items c.args.left.now c.args.right.now

pub returns-then-precedes-clause-sums : goal.returns-then-precedes-clause-sums
returns-then-precedes-clause-sums c =
    let left = c.args.left.now in
    let right = c.args.right.now in
    let end = c.cells_before-end.result in
    sums_run c.args.out.now.items c.args.out.now.items c.extend_from_slice.new.self.items left right 0 0 end
    c.requires.left (omega arith) c.cells_before-end.ensures.within
    (λ d some h. subst (Precedes (get_or left (end - 1) d)) (get_or_default right 0 none d h)
    (c.cells_before-end.ensures.before d some))
    (c.in_ok-extend_from_slice.ensures.items ∙ ap (λ n. c.args.out.now.items ++ take n left) {x = end} {y = end - 0}
    (omega arith)) (sums_none c.args.out.now.items left right)

pub returns-clause-sums : goal.returns-clause-sums
returns-clause-sums c =
    let left = c.args.left.now in
    let right = c.args.right.now in
    let end = c.cells_before-end-2.result in
    sums_run_right c.args.out.now.items c.args.out.now.items c.extend_from_slice-2.new.self.items left right 0 0 end
    c.requires.right (omega arith) c.cells_before-end-2.ensures.within
    (λ d some h. subst (Precedes (get_or right (end - 1) d)) (get_or_default left 0 none d h)
    (c.cells_before-end-2.ensures.before d some))
    (c.in_ok-extend_from_slice-2.ensures.items ∙ ap (λ n. c.args.out.now.items ++ take n right) {x = end} {y = end - 0}
    (omega arith)) (sums_none c.args.out.now.items left right)

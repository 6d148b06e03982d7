use Rattle.std.proofs.Common.{◌∙◌, ap, subst, take, length, rules, arith}
use Rattle.std.proofs.lemmas.List.{length-map}
use Rattle.hyper_matrix.specs.ListSum.{AppendsSumOf}
use Rattle.hyper_matrix.proofs.ListSumLaws.{lists_at, parts_at, rise_left, rise_right, total-both, no_lists, several}
use Rattle.hyper_matrix.proofs.ListSumLaws.{both_sum, cell_total-sum, first_part, second_part, both_kept}
use Rattle.hyper_matrix.proofs.list_sum.+push_several.Goals as goal

pub returns-then-lists-le1-clause-sum : goal.returns-then-lists-le1-clause-sum
returns-then-lists-le1-clause-sum t c = no_lists c.args.out.now.items (lists_at c.args.lists.now)
    (omega (arith, length-map c.args.lists.now (λ list. list.now)))

pub push_several-requires : goal.push_several-requires
push_several-requires t c =
    let left = c.split_at.result.0.now in
    let right = c.split_at.result.1.now in
    let cut = c.split_at.ensures.by_index.0 in (
      search rules,
      (
        rise_left c.args.lists.now left right cut c.requires.rise,
        omega (arith, total-both c.args.lists.now left right cut, c.requires.fits),
      ),
    )

pub push_several-requires-2 : goal.push_several-requires-2
push_several-requires-2 t c =
    let left = c.split_at.result.0.now in
    let right = c.split_at.result.1.now in
    let cut = c.split_at.ensures.by_index.0 in (
      search rules,
      (
        rise_right c.args.lists.now left right cut c.requires.rise,
        omega (arith, total-both c.args.lists.now left right cut, c.requires.fits),
      ),
    )

pub part_of-left-requires-clause-rise : goal.part_of-left-requires-clause-rise
part_of-left-requires-clause-rise t c = rise_left c.args.lists.now c.split_at.result.0.now c.split_at.result.1.now
    c.split_at.ensures.by_index.0 c.requires.rise

pub part_of-right-requires-clause-rise : goal.part_of-right-requires-clause-rise
part_of-right-requires-clause-rise t c = rise_right c.args.lists.now c.split_at.result.0.now c.split_at.result.1.now
    c.split_at.ensures.by_index.0 c.requires.rise

pub part_of-left-requires-clause-made : goal.part_of-left-requires-clause-made
part_of-left-requires-clause-made t c = first_part c.reserve.new.self.items c.push_several.new.out.items
    c.push_several-2.new.out.items (lists_at c.split_at.result.0.now) (lists_at c.split_at.result.1.now)
    c.in_ok-push_several.ensures.sum c.in_ok-push_several-2.ensures.sum c.len-begun.result c.len-middle.result
    c.deref.result.now (omega (arith, c.len-begun.ensures, ap length c.reserve.ensures.items))
    (omega (arith, c.len-middle.ensures)) c.deref.ensures.value

pub part_of-right-requires-clause-made : goal.part_of-right-requires-clause-made
part_of-right-requires-clause-made t c = second_part c.reserve.new.self.items c.push_several.new.out.items
    c.push_several-2.new.out.items (lists_at c.split_at.result.0.now) (lists_at c.split_at.result.1.now)
    c.in_ok-push_several.ensures.sum c.in_ok-push_several-2.ensures.sum c.len-begun.result c.len-middle.result
    c.deref-2.result.now (omega (arith, c.len-begun.ensures, ap length c.reserve.ensures.items))
    (omega (arith, c.len-middle.ensures)) c.deref-2.ensures.value

pub push_merged-requires-clause-fits : goal.push_merged-requires-clause-fits
push_merged-requires-clause-fits t c = omega (
  arith,
  cell_total-sum c.part_of-left.result.now (lists_at c.split_at.result.0.now) c.part_of-left.ensures,
  cell_total-sum c.part_of-right.result.now (lists_at c.split_at.result.1.now) c.part_of-right.ensures,
  total-both c.args.lists.now c.split_at.result.0.now c.split_at.result.1.now c.split_at.ensures.by_index.0,
  c.requires.fits,
)

pub returns-clause-sum : goal.returns-clause-sum
returns-clause-sum t c = several c.args.out.now.items c.push_merged.new.out.items (lists_at c.args.lists.now)
    (omega (arith, length-map c.args.lists.now (λ list. list.now)))
    (subst (λ old. AppendsSumOf old c.push_merged.new.out.items (lists_at c.args.lists.now))
    (c.in_ok-push_several-2.ensures.spare ∙ c.in_ok-push_several.ensures.spare)
    (both_sum c.push_several-2.new.spare.items c.push_merged.new.out.items c.part_of-left.result.now
    c.part_of-right.result.now (lists_at c.split_at.result.0.now) (lists_at c.split_at.result.1.now)
    (lists_at c.args.lists.now) c.part_of-left.ensures c.part_of-right.ensures
    (parts_at c.args.lists.now c.split_at.result.0.now c.split_at.result.1.now c.split_at.ensures.by_index.0)
    c.in_ok-push_merged.ensures))

pub returns-clause-spare : goal.returns-clause-spare
returns-clause-spare t c =
    c.truncate.ensures.items
    ∙ ap (λ n. take n c.push_several-2.new.out.items) {x = c.len-begun.result} {y = length c.reserve.new.self.items}
    (omega (arith, c.len-begun.ensures, ap length c.reserve.ensures.items))
    ∙ both_kept c.reserve.new.self.items c.push_several.new.out.items c.push_several-2.new.out.items
    (lists_at c.split_at.result.0.now) (lists_at c.split_at.result.1.now) c.in_ok-push_several.ensures.sum
    c.in_ok-push_several-2.ensures.sum
    ∙ c.reserve.ensures.items

use Rattle.std.proofs.Common.{Bor, List, [], get_or, ap, subst, sym, ◌∙◌, arith, ◌++◌}
use Rattle.cells.specs.declared.cell.Cell.{Cell}
use Rattle.std.proofs.lemmas.List.{length-map}
use Rattle.hyper_matrix.specs.ListSum.{IsSumOf}
use Rattle.hyper_matrix.proofs.ListSumLaws.{lists_at, only_sum, several_from_none}
use Rattle.hyper_matrix.proofs.list_sum.sum_of_lists.Goals as goal

abbrev none : Bor (List Cell)
none = record { ref_ptr = (0, 0); now = [] }

pub returns-then-lists-eq1 : goal.returns-then-lists-eq1
returns-then-lists-eq1 c = subst (λ cells. IsSumOf cells (lists_at c.args.lists.now))
    (sym (c.in_ok-extend_from_slice.ensures.items ∙ ap (λ (r : List Cell). r ++ (get_or c.args.lists.now 0 none).now)
    c.in_ok-out.ensures.items))
    (only_sum c.args.lists.now none (omega (arith, c.if-lists-eq1.true)) c.requires.rise)

pub returns : goal.returns
returns c = several_from_none c.in_ok-out.out.items c.push_several.new.out.items (lists_at c.args.lists.now)
    (λ one. omega (arith, one, c.if-lists-eq1.false, length-map c.args.lists.now (λ list. list.now)))
    c.in_ok-out.ensures.items c.in_ok-push_several.ensures.sum

use Rattle.std.proofs.Common.{List, ℕ, ◌≡◌, ◌≤◌, length, map, subst, sym, arith}
use Rattle.std.specs.FinMap.{entries_sorted}
use Rattle.hyper_matrix.specs.Cells.{entry_of}
use Rattle.cell_queries.proofs.TopLaws.{ok_weaker}
use Rattle.wire_proto.specs.Questions.{cells_reply}
use Rattle.wire_proto.proofs.LongLemmas.{page_few, cells_short}
use Rattle.wire_proto.proofs.questions.page_of_sum.Goals as goal

pub range_of-requires : goal.range_of-requires
range_of-requires c = entries_sorted c.in_ok-cells.cells

pub returns-clause-few : goal.returns-clause-few
returns-clause-few c =
    let es = map entry_of c.in_ok-page.page.cells.items in
    let few = page_few c.args.range.now c.args.most _ es c.in_ok-page.ensures.cells in
    ok_weaker c.cells_reply.result (λ v. v.items ≡ cells_reply c.in_ok-page.page.more es)
    (λ v. length v.items ≤ 134217728)
    (λ v e. subst (λ (l : List ℕ). length l ≤ 134217728) (sym e)
    (cells_short c.in_ok-page.page.more es (omega (arith, few, c.requires)))) c.cells_reply.ensures

use Rattle.std.proofs.Common.{List, ℕ, ◌≡◌, ◌≤◌, length, subst, sym, ap, arith}
use Rattle.std.specs.FinMap.{entries_sorted}
use Rattle.cell_queries.proofs.TopLaws.{ok_weaker}
use Rattle.wire_proto.specs.Questions.{rows_reply}
use Rattle.wire_proto.proofs.LongLemmas.{top_few, rows_short}
use Rattle.wire_proto.proofs.questions.groups_of_sum.Goals as goal

pub top_of_groups-requires-clause-order : goal.top_of_groups-requires-clause-order
top_of_groups-requires-clause-order c = entries_sorted c.in_ok-cells.cells

pub returns-clause-few : goal.returns-clause-few
returns-clause-few c =
    let few = top_few c.args.by c.args.most _ _ c.in_ok-rows.ensures in
    let same = ap length c.deref.ensures.value in
    ok_weaker c.rows_reply.result (λ v. v.items ≡ rows_reply c.deref.result.now)
    (λ v. length v.items ≤ 134217728)
    (λ v e. subst (λ (l : List ℕ). length l ≤ 134217728) (sym e)
    (rows_short c.deref.result.now (omega (arith, few, same, c.requires.most)))) c.rows_reply.ensures

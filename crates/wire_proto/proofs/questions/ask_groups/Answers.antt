use Rattle.std.proofs.Common.{subst}
use Rattle.cell_queries.specs.declared.groups.RowGroups.{RowGroups}
use Rattle.cell_queries.specs.declared.top.TopBy.{TopBy}
use Rattle.wire_proto.specs.Answering.{of_sum}
use Rattle.wire_proto.specs.Questions.{TellsGroups, groups_of}
use Rattle.wire_proto.proofs.AskLemmas.{on_err, groups_lack, rows_from}
use Rattle.wire_proto.proofs.questions.ask_groups.Goals as goal

pub returns-in_err-sum-clause-none : goal.returns-in_err-sum-clause-none
returns-in_err-sum-clause-none g c =
    let b = rows_from _ _ _ (c.are_rows.ensures.0 c.if-not-are_rows.false) c.setup-setup.ensures in
    let n = c.are_groups.ensures.0 c.if-not-are_groups.false in
    on_err _ _ (groups_lack _ _ _ _ _ _ _ _ c.in_err-sum.field-0.0 b n c.in_err-sum.ensures.gives)

pub returns-in_err-groups_of_sum-clause-none : goal.returns-in_err-groups_of_sum-clause-none
returns-in_err-groups_of_sum-clause-none g c =
    let b = rows_from _ _ _ (c.are_rows.ensures.0 c.if-not-are_rows.false) c.setup-setup.ensures in
    let n = c.are_groups.ensures.0 c.if-not-are_groups.false in
    let e = c.in_err-groups_of_sum.field-0.0 in
    on_err _ _ (groups_lack _ _ _ _ _ _ _ _ e b n
    (g.met.K.Keeper.may_lack c.args.keeper.now c.export.new.self c.in_ok-sum.sum e c.in_ok-sum.ensures.gives))

pub returns-clause-reply : goal.returns-clause-reply
returns-clause-reply g c =
    let b = rows_from _ _ _ (c.are_rows.ensures.0 c.if-not-are_rows.false) c.setup-setup.ensures in
    let n = c.are_groups.ensures.0 c.if-not-are_groups.false in
    let t = subst (λ (x : RowGroups). TellsGroups c.by_of.result x c.args.most c.in_ok-sum.sum
    c.in_ok-groups_of_sum.field-0.items) c.groups_from-groups.ensures c.in_ok-groups_of_sum.ensures.bytes in
    let u = subst (λ (x : TopBy). TellsGroups x (groups_of c.args.rows c.args.shift) c.args.most c.in_ok-sum.sum
    c.in_ok-groups_of_sum.field-0.items) c.by_of.ensures t in
    of_sum c.in_ok-sum.sum (b, n, u) c.in_ok-sum.ensures.gives

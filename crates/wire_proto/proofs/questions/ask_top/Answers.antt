use Rattle.std.proofs.Common.{rules, ◌≤◌, subst}
use Rattle.wire_proto.specs.Answering.{of_sum}
use Rattle.wire_proto.specs.Questions.{IsCount, TellsTop}
use Rattle.wire_proto.proofs.AskLemmas.{on_err, top_lacks}
use Rattle.wire_proto.proofs.questions.ask_top.Goals as goal

pub returns-in_err-sum-clause-none : goal.returns-in_err-sum-clause-none
returns-in_err-sum-clause-none g c =
    let b : c.args.by ≤ 1 = search rules in
    let n : IsCount c.args.most = search rules in
    on_err _ _ (top_lacks _ _ _ _ _ _ c.in_err-sum.field-0.0 b n c.in_err-sum.ensures.gives)

pub returns-in_err-top_of_sum-clause-none : goal.returns-in_err-top_of_sum-clause-none
returns-in_err-top_of_sum-clause-none g c =
    let b : c.args.by ≤ 1 = search rules in
    let n : IsCount c.args.most = search rules in
    let e = c.in_err-top_of_sum.field-0.0 in
    on_err _ _ (top_lacks _ _ _ _ _ _ e b n
    (g.met.K.Keeper.may_lack c.args.keeper.now c.export.new.self c.in_ok-sum.sum e c.in_ok-sum.ensures.gives))

pub returns-clause-reply : goal.returns-clause-reply
returns-clause-reply g c =
    let b : c.args.by ≤ 1 = search rules in
    let n : IsCount c.args.most = search rules in
    let t = subst (λ x. TellsTop x c.args.most c.in_ok-sum.sum c.in_ok-top_of_sum.field-0.items) c.by_of.ensures
    c.in_ok-top_of_sum.ensures.bytes in
    of_sum c.in_ok-sum.sum (b, n, t) c.in_ok-sum.ensures.gives

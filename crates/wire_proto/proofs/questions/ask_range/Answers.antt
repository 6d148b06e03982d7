use Rattle.wire_proto.specs.Answering.{of_sum}
use Rattle.wire_proto.proofs.AskLemmas.{on_err, range_lacks, bounds_from}
use Rattle.wire_proto.proofs.questions.ask_range.Goals as goal

pub returns-in_err-sum-clause-none : goal.returns-in_err-sum-clause-none
returns-in_err-sum-clause-none g c =
    let b = bounds_from _ _ _ _ (c.are_bounds.ensures.0 c.if-not-are_bounds.false) c.setup-setup.ensures in
    let n = c.is_count.ensures.0 c.if-not-is_count.false in
    on_err _ _ (range_lacks _ _ _ _ _ _ _ _ c.in_err-sum.field-0.0 b n c.in_err-sum.ensures.gives)

pub returns-in_err-page_of_sum-clause-none : goal.returns-in_err-page_of_sum-clause-none
returns-in_err-page_of_sum-clause-none g c =
    let b = bounds_from _ _ _ _ (c.are_bounds.ensures.0 c.if-not-are_bounds.false) c.setup-setup.ensures in
    let n = c.is_count.ensures.0 c.if-not-is_count.false in
    let e = c.in_err-page_of_sum.field-0.0 in
    on_err _ _ (range_lacks _ _ _ _ _ _ _ _ e b n
    (g.met.K.Keeper.may_lack c.args.keeper.now c.export.new.self c.in_ok-sum.sum e c.in_ok-sum.ensures.gives))

pub returns-clause-reply : goal.returns-clause-reply
returns-clause-reply g c =
    let b = bounds_from _ _ _ _ (c.are_bounds.ensures.0 c.if-not-are_bounds.false) c.setup-setup.ensures in
    let n = c.is_count.ensures.0 c.if-not-is_count.false in
    of_sum c.in_ok-sum.sum (b, n, c.in_ok-page_of_sum.ensures.bytes) c.in_ok-sum.ensures.gives

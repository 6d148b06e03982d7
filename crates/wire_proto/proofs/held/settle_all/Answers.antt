use Rattle.std.proofs.Common.{ℕ, ◌∙◌, List, [], ◌∷◌, ◌++◌, take, get_or, sym, subst, arith}
use Rattle.std.proofs.lemmas.List.{take_more}
use Rattle.wire_proto.specs.declared.held.Begun.{Begun}
use Rattle.wire_proto.specs.declared.held.Begun.TheVariants.{Accepted}
use Rattle.wire_proto.specs.Settling.{SettlesAll}
use Rattle.wire_proto.proofs.HeldLemmas.{push_settled}
use Rattle.wire_proto.proofs.held.settle_all.Goals as goal

pub loop-one-preserved : goal.loop-one-preserved
loop-one-preserved g c =
    let all = c.args.begun.now in
    let i = c.loop-one.one-index in
    let none : Begun = Accepted (record { index = 0; total_after = 0 }) in
    let one : Begun = get_or all i none in
    let settles = g.K.Keeper.settles in
    let pushed = push_settled settles c.args.keeper.now c.loop-one.keeper c.settle_one-reply.new.keeper (take i all) one
    c.loop-one.replies.items c.settle_one-reply.result.items c.loop-one.invariant.settled
    c.settle_one-reply.ensures.settles in record {
      fact = c.settle_one-reply.ensures.fact;
      setup = c.settle_one-reply.ensures.setup ∙ c.loop-one.invariant.setup;
      short = omega (arith, c.append.ensures.short, c.loop-one.invariant.short);
      settled = subst (λ (l : List Begun). SettlesAll settles c.args.keeper.now l c.append.new.replies.items
          c.settle_one-reply.new.keeper) (sym (take_more all i none c.loop-one-test.true))
          (subst (λ (bytes : List ℕ). SettlesAll settles c.args.keeper.now (take i all ++ one ∷ []) bytes
          c.settle_one-reply.new.keeper) (sym c.append.ensures.items) pushed);
    }

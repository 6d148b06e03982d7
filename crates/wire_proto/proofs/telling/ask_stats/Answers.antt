use Rattle.wire_proto.specs.LongReplies.{bytes_of}
use Rattle.wire_proto.proofs.AskLemmas.{on_err, on_err_of, stats_replied, stats_lacks}
use Rattle.wire_proto.proofs.telling.ask_stats.Goals as goal

pub returns-in_err-told-clause-none : goal.returns-in_err-told-clause-none
returns-in_err-told-clause-none g c = on_err _ _ (stats_lacks _ _ _ _ c.in_err-told.field-0.0 c.in_err-told.ensures.gives)

pub returns-clause-reply : goal.returns-clause-reply
returns-clause-reply g c = stats_replied bytes_of _ _ _ _ c.in_ok-told.told c.reply_of_told.result
    c.in_ok-told.ensures.gives c.reply_of_told.ensures.bytes

pub returns-clause-none : goal.returns-clause-none
returns-clause-none g c = on_err_of c.reply_of_told.result _ (λ e. stats_lacks _ _ _ _ e
    (g.met.K.Keeper.may_lack_text c.args.keeper.now c.stats.new.self c.in_ok-told.told e c.in_ok-told.ensures.gives))

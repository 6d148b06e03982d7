use Rattle.std.proofs.Common.{ap, inr, refl, sym, ◌∙◌}
use Rattle.socket_server.specs.Starts.{asks_log}
use Rattle.socket_server.proofs.start.judge_log.Goals as goal

pub returns-then-asks_log-clause-told : goal.returns-then-asks_log-clause-told
returns-then-asks_log-clause-told c =
    inr (c.in_ok-name.name, refl, sym (c.asks_log.ensures ∙ ap asks_log c.origin_of.ensures) ∙ c.if-asks_log.true)

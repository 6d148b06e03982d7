use Rattle.std.proofs.Common.{inr, refl, sym, ◌∙◌}
use Rattle.socket_server.proofs.start.missing_fault.Goals as goal

pub returns-clause-told : goal.returns-clause-told
returns-clause-told c =
    inr (inr (c.in-Ok.log, c.in-Ok-name_of.snapshot, refl, sym c.asks_log.ensures ∙ c.if-not-asks_log.false))

use Rattle.std.proofs.Common.{sym, ◌∙◌}
use Rattle.socket_server.proofs.RenewLaws.{other_holds}
use Rattle.socket_server.proofs.start.renewed.Goals as goal

-- the head doesn't say both, so all was saved
pub renew-requires-clause-held : goal.renew-requires-clause-held
renew-requires-clause-held g c =
    other_holds c.requires.held (λ says. cc (sym (c.is_marked.ensures.1 says) ∙ c.if-is_marked.false))

use Rattle.plain_engine.proofs.StandLaws.{whole}
use Rattle.plain_engine.proofs.engine.PlainEngine.setup.Goals as goal

pub returns-clause-kept : goal.returns-clause-kept
returns-clause-kept c = whole _ _ _ _ c.self.invariant c.self.view_is

use Rattle.plain_engine.proofs.StandLaws.{whole}
use Rattle.plain_engine.proofs.LookLaws.{have_setup}
use Rattle.plain_engine.proofs.engine.PlainEngine.parts.Goals as goal

pub returns-clause-kept : goal.returns-clause-kept
returns-clause-kept c = whole _ _ _ _ c.self.invariant c.self.view_is

pub returns-clause-made : goal.returns-clause-made
returns-clause-made c = have_setup _ _ 0 _ c.self.invariant.stand

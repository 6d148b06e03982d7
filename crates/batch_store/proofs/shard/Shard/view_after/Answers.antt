use Rattle.batch_store.proofs.ShardLaws.{held_after}
use Rattle.batch_store.proofs.shard.Shard.view_after.Goals as goal

pub returns-in_err-layers-clause-held : goal.returns-in_err-layers-clause-held
returns-in_err-layers-clause-held c =
    held_after _ _ _ _ _ _ _ c.self.invariant.0 c.self.view_is c.args.p.now c.requires

pub returns-clause-held : goal.returns-clause-held
returns-clause-held c = held_after _ _ _ _ _ _ _ c.self.invariant.0 c.self.view_is c.args.p.now c.requires

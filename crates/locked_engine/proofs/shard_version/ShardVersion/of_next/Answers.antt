use Rattle.locked_engine.proofs.ShownLaws.{next_shown}
use Rattle.locked_engine.proofs.shard_version.ShardVersion.of_next.Goals as goal

-- the shard as it will be keeps itself
pub new-requires : goal.new-requires
new-requires g c =
    let sight = c.in_ok-sight.ensures in
    next_shown g.N.Named.setup g.N.Named.opened c.number-number.result c.in_ok-sight.sight c.args.shard.now
    c.args.p.now.batch
    c.requires.setup c.number-number.ensures.value c.requires.based sight.held sight.layers sight.record

use Rattle.std.proofs.Common.{sym}
use Rattle.locked_engine.proofs.shard_version.ShardVersion.of_shard.Goals as goal

pub new-requires : goal.new-requires
new-requires g c = (
  c.args.shard.now,
  record {
    shard = record {
      setup = c.requires.setup;
      number = sym c.number-number.ensures.value;
      since = c.requires.based.0;
      based = c.requires.based.1;
      held = c.number-number.ensures.kept;
    };
    layers = c.in_ok-sight.ensures.layers;
    record_len = c.in_ok-sight.ensures.record;
  },
)

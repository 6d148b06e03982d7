use Rattle.hyper_matrix.proofs.ShardLaws.{low_bits}
use Rattle.hyper_matrix.proofs.shard.shard_of.Goals as goal

pub returns-then-k-bits : goal.returns-then-k-bits
returns-then-k-bits c = low_bits c.args.row c.args.k _ c.if-bits-lt64.true c.if-k-bits.true

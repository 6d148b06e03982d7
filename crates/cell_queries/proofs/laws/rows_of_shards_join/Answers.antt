use Rattle.cell_queries.proofs.ApartLaws.{shard_joins}
use Rattle.cell_queries.proofs.laws.rows_of_shards_join.Goals as goal

pub returns : goal.returns
returns c = shard_joins

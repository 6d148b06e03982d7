use Rattle.batch_store.proofs.PartLaws.{below-suc, below_in-suc}
use Rattle.batch_store.proofs.laws.one_shard_more.Goals as goal

pub returns : goal.returns
returns c = record { matrix = λ s k m. below-suc s k m; accepted = λ s k a. below_in-suc s k a }

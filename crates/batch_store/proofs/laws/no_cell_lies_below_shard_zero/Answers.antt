use Rattle.batch_store.proofs.PartLaws.{below-zero, below_in-zero}
use Rattle.batch_store.proofs.laws.no_cell_lies_below_shard_zero.Goals as goal

pub returns : goal.returns
returns c = record { matrix = λ k m. below-zero k m; accepted = λ k a. below_in-zero k a }

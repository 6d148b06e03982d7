use Rattle.batch_store.proofs.PartLaws.{below-all, below_in-all}
use Rattle.batch_store.proofs.laws.shards_have_all.Goals as goal

pub returns : goal.returns
returns c = record { matrix = λ k m h. below-all k m h; accepted = λ k a h based. below_in-all k a h based }

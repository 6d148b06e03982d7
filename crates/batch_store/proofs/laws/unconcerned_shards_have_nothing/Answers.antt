use Rattle.batch_store.proofs.PartLaws.{part_of-unconcerned, part-unconcerned}
use Rattle.batch_store.proofs.laws.unconcerned_shards_have_nothing.Goals as goal

pub returns : goal.returns
returns c = record { total = λ s k m h. part_of-unconcerned s k m h; part = λ s k m h. part-unconcerned s k m h }

use Rattle.batch_store.proofs.PartLaws.{record_content-concerned}
use Rattle.batch_store.proofs.laws.unconcerned_batches_add_nothing.Goals as goal

pub returns : goal.returns
returns c = λ s k base list. record_content-concerned s k base list

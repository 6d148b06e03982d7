use Rattle.batch_store.proofs.SumLaws.{record-whole}
use Rattle.batch_store.proofs.laws.records_hold_the_part.Goals as goal

pub returns : goal.returns
returns c = λ s k a. record-whole s k a

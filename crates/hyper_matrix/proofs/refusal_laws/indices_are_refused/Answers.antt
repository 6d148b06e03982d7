use Rattle.hyper_matrix.proofs.RefusalLaws.{index_faults}
use Rattle.hyper_matrix.proofs.refusal_laws.indices_are_refused.Goals as goal

pub returns : goal.returns
returns c = index_faults

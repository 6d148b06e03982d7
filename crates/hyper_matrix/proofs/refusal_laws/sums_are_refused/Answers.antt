use Rattle.hyper_matrix.proofs.RefusalLaws.{sum_faults}
use Rattle.hyper_matrix.proofs.refusal_laws.sums_are_refused.Goals as goal

pub returns : goal.returns
returns c = sum_faults

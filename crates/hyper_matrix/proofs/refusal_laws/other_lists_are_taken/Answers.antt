use Rattle.hyper_matrix.proofs.RefusalLaws.{no_faults}
use Rattle.hyper_matrix.proofs.refusal_laws.other_lists_are_taken.Goals as goal

pub returns : goal.returns
returns c = no_faults

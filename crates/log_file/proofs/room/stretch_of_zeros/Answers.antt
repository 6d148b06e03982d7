use Rattle.log_file.proofs.LogLemmas.{replicated}
use Rattle.log_file.proofs.room.stretch_of_zeros.Goals as goal

pub returns : goal.returns
returns c = λ j. replicated 65536 j 0

use Rattle.byte_io.proofs.WrapperLemmas.{endless_reads}
use Rattle.byte_io.proofs.wrapper_laws.endless_gives_one_sequence.Goals as goal

pub returns : goal.returns
returns c = endless_reads

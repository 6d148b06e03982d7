use Rattle.wire_proto.proofs.CellLemmas.{read_again}
use Rattle.wire_proto.proofs.laws.cells_are_read_again.Goals as goal

pub returns : goal.returns
returns c = λ cells h. read_again cells h

use Rattle.hyper_matrix.proofs.BuildLaws.{no_memory_fault}
use Rattle.hyper_matrix.proofs.hyper.Hyper.build_list.Goals as goal

pub returns-in-Some-clause-memory : goal.returns-in-Some-clause-memory
returns-in-Some-clause-memory c e = absurd (no_memory_fault c.args.rows c.args.cols 0 c.args.cells.items (cc))

use Rattle.std.proofs.Common.{arith}
use Rattle.hyper_matrix.proofs.ListMergeLaws.{masked}
use Rattle.hyper_matrix.proofs.merge.picked.Goals as goal

pub returns-clause-all : goal.returns-clause-all
returns-clause-all c all = masked c.args.first c.args.second c.args.mask (omega arith) (omega arith) all

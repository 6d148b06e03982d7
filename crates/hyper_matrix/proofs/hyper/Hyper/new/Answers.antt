use Rattle.hyper_matrix.proofs.MatrixLaws.{holds_none, nothing}
use Rattle.hyper_matrix.proofs.hyper.Hyper.new.Goals as goal

pub invariant_of-result : goal.invariant_of-result
invariant_of-result c = holds_none c.args.rows c.args.cols _ c.requires.rows c.requires.cols c.none.ensures

pub returns : goal.returns
returns c = nothing c.args.rows c.args.cols _ c.none.ensures

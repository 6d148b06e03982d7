use Rattle.std.proofs.Common.{ap, ◌∙◌, arith}
use Rattle.hyper_matrix.proofs.BuiltOfLaws.{built_of-none}
use Rattle.hyper_matrix.specs.Matrix.{matrix}
use Rattle.hyper_matrix.proofs.hyper.Hyper.from_sorted.Goals as goal

pub returns-then-len-eq0-clause-value : goal.returns-then-len-eq0-clause-value
returns-then-len-eq0-clause-value c = c.new.ensures ∙ ap (matrix c.args.rows c.args.cols)
    (built_of-none c.args.cells.items (omega arith))

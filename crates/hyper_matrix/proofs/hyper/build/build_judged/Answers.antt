use Rattle.std.proofs.Common.{ap, ◌∙◌, arith}
use Rattle.hyper_matrix.specs.Matrix.{matrix}
use Rattle.hyper_matrix.proofs.BuiltOfLaws.{built_of-none}
use Rattle.hyper_matrix.proofs.RefusalLaws.{no_faults}
use Rattle.hyper_matrix.proofs.hyper.build.build_judged.Goals as goal

pub returns-then-cells-eq0-clause-value : goal.returns-then-cells-eq0-clause-value
returns-then-cells-eq0-clause-value c = c.new.ensures ∙ ap (matrix c.args.rows c.args.cols)
    (built_of-none c.args.cells.now (omega arith))

pub of_list-requires-clause-within : goal.of_list-requires-clause-within
of_list-requires-clause-within c = ((no_faults c.args.rows c.args.cols c.args.cells.now).0 c.requires.judged).within

pub of_list-requires-clause-fits : goal.of_list-requires-clause-fits
of_list-requires-clause-fits c = ((no_faults c.args.rows c.args.cols c.args.cells.now).0 c.requires.judged).fits

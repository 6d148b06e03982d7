use Rattle.std.proofs.Common.{ap, ◌∙◌, arith}
use Rattle.hyper_matrix.specs.Matrix.{matrix}
use Rattle.hyper_matrix.proofs.BuiltOfLaws.{built_of-none, built_of-same}
use Rattle.hyper_matrix.proofs.RefusalLaws.{no_faults}
use Rattle.hyper_matrix.proofs.hyper.build.build_given.Goals as goal

pub returns-then-len-eq0-clause-value : goal.returns-then-len-eq0-clause-value
returns-then-len-eq0-clause-value c = c.new.ensures ∙ ap (matrix c.args.rows c.args.cols)
    (built_of-none c.args.cells.items (omega arith))

pub into_summed-list-requires : goal.into_summed-list-requires
into_summed-list-requires c =
    record { fits = ((no_faults c.args.rows c.args.cols c.args.cells.items).0 c.requires.judged).fits }

pub from_sorted-requires-clause-within : goal.from_sorted-requires-clause-within
from_sorted-requires-clause-within c = c.into_summed-list.ensures.within c.args.rows c.args.cols
    ((no_faults c.args.rows c.args.cols c.args.cells.items).0 c.requires.judged).within

pub from_sorted-requires-clause-fits : goal.from_sorted-requires-clause-fits
from_sorted-requires-clause-fits c = omega (
  arith,
  c.into_summed-list.ensures.total,
  ((no_faults c.args.rows c.args.cols c.args.cells.items).0 c.requires.judged).fits,
)

pub returns-clause-value : goal.returns-clause-value
returns-clause-value c = c.in_ok-m.ensures.value ∙ ap (matrix c.args.rows c.args.cols)
    (built_of-same _ _ c.into_summed-list.ensures.sums)

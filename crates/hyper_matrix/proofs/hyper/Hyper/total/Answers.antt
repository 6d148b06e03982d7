use Rattle.std.proofs.Common.{ap, ◌∙◌, arith}
use Rattle.hyper_matrix.specs.Counts.{total}
use Rattle.hyper_matrix.specs.Matrix.{Matrix}
use Rattle.hyper_matrix.proofs.MatrixLaws.{kept_total}
use Rattle.hyper_matrix.proofs.hyper.Hyper.total.Goals as goal

pub returns-clause-value : goal.returns-clause-value
returns-clause-value c = kept_total _ _ _ _ c.self.invariant ∙ ap (λ (m : Matrix). total m.counts) c.self.view_is

pub returns-clause-fits : goal.returns-clause-fits
returns-clause-fits c = omega (
  arith,
  kept_total _ _ _ _ c.self.invariant,
  ap (λ (m : Matrix). total m.counts) c.self.view_is,
)

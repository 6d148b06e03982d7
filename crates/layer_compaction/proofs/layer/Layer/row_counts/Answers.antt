use Rattle.std.proofs.Common.{ap, subst, sym, arith}
use Rattle.hyper_matrix.specs.Matrix.{Matrix}
use Rattle.layer_compaction.specs.Shared.{values, HaveDims}
use Rattle.layer_compaction.proofs.layer.Layer.row_counts.Goals as goal

pub returns-clause-outside : goal.returns-clause-outside
returns-clause-outside c h = c.row_counts_in.ensures.outside c.self.inside.rows c.self.inside.cols
    (subst (λ l. HaveDims c.self.inside.rows c.self.inside.cols (values l)) (sym c.deref.ensures.value)
    c.self.invariant.0.dims) (omega (arith, h, ap (λ (m : Matrix). m.rows) c.self.view_is))

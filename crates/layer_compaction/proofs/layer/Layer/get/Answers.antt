use Rattle.std.proofs.Common.{ap, subst, sym, inl, inr, arith}
use Rattle.hyper_matrix.specs.Matrix.{Matrix}
use Rattle.layer_compaction.specs.Shared.{values, HaveDims}
use Rattle.layer_compaction.proofs.layer.Layer.get.Goals as goal

pub returns-clause-outside : goal.returns-clause-outside
returns-clause-outside c h = c.count_in.ensures.outside c.self.inside.rows c.self.inside.cols
    (subst (λ l. HaveDims c.self.inside.rows c.self.inside.cols (values l)) (sym c.deref.ensures.value)
    c.self.invariant.0.dims) (elim h [
      | inl r ↦ inl (omega (arith, r, ap (λ (m : Matrix). m.rows) c.self.view_is))
      | inr k ↦ inr (omega (arith, k, ap (λ (m : Matrix). m.cols) c.self.view_is))
    ])

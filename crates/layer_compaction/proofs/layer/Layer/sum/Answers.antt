use Rattle.std.proofs.Common.{ap, ◌∙◌, arith}
use Rattle.hyper_matrix.specs.Counts.{ewise_add, total}
use Rattle.hyper_matrix.specs.Matrix.{Matrix, matrix}
use Rattle.hyper_matrix.proofs.CountLaws.{total-empty}
use Rattle.layer_compaction.proofs.LayerLemmas.{empty-ewise_add}
use Rattle.layer_compaction.proofs.layer.Layer.sum.Goals as goal

pub added-requires-clause-fits : goal.added-requires-clause-fits
added-requires-clause-fits c = omega (
  arith,
  ap (λ (m : Matrix). total m.counts) c.new-none.ensures,
  total-empty,
  c.self.invariant.0.fits,
  ap (λ (m : Matrix). total m.counts) c.self.view_is,
)

pub returns : goal.returns
returns c =
    c.in_ok-sum.ensures
    ∙ ap (λ (m : Matrix). matrix m.rows m.cols (ewise_add m.counts c.args.self.now.counts)) c.new-none.ensures
    ∙ ap (matrix c.self.inside.rows c.self.inside.cols) (empty-ewise_add c.args.self.now.counts)
    ∙ ap (λ (m : Matrix). matrix m.rows m.cols c.args.self.now.counts) c.self.view_is

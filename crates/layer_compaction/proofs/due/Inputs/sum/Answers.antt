use Rattle.std.proofs.Common.{ap, ◌∙◌, arith}
use Rattle.hyper_matrix.specs.Counts.{ewise_add, total}
use Rattle.hyper_matrix.specs.Matrix.{Matrix, matrix}
use Rattle.hyper_matrix.proofs.CountLaws.{total-empty}
use Rattle.layer_compaction.specs.Shared.{content, values, all_counts}
use Rattle.layer_compaction.proofs.LayerLemmas.{empty-ewise_add}
use Rattle.layer_compaction.proofs.due.Inputs.sum.Goals as goal

pub sum_with_runs-requires-clause-fits : goal.sum_with_runs-requires-clause-fits
sum_with_runs-requires-clause-fits c = omega (
  arith,
  ap (λ (m : Matrix). total m.counts) c.new-none.ensures,
  total-empty,
  c.self.invariant.fits,
  ap (λ l. total (content (all_counts (values l)))) c.deref.ensures.value,
)

pub returns : goal.returns
returns c =
    let all = content (all_counts (values c.deref.result.now)) in
    c.in_ok-sum.ensures
    ∙ ap (λ (m : Matrix). matrix m.rows m.cols (ewise_add m.counts all)) c.new-none.ensures
    ∙ ap (matrix c.self.inside.rows c.self.inside.cols) (empty-ewise_add all
    ∙ ap (λ l. content (all_counts (values l))) c.deref.ensures.value)
    ∙ c.self.view_is

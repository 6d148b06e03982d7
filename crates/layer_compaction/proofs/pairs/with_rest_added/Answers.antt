use Rattle.std.proofs.Common.{ap, subst, sym, arith, ◌∙◌}
use Rattle.hyper_matrix.specs.Counts.{ewise_add, total}
use Rattle.hyper_matrix.specs.Matrix.{Matrix, matrix}
use Rattle.hyper_matrix.proofs.CountLaws.{total-empty}
use Rattle.layer_compaction.specs.Shared.{content, values, all_counts, HaveDims}
use Rattle.layer_compaction.proofs.LayerLemmas.{empty-ewise_add}
use Rattle.layer_compaction.proofs.RunLemmas.{have_parts, total-parts}
use Rattle.layer_compaction.proofs.PairLemmas.{before-settled, content-settled, dims-settled}
use Rattle.layer_compaction.proofs.pairs.with_rest_added.Goals as goal

pub sum_with_runs-requires-clause-dims : goal.sum_with_runs-requires-clause-dims
sum_with_runs-requires-clause-dims c =
    subst (λ (m : Matrix). HaveDims m.rows m.cols (values c.split_at.result.1.now)) (sym c.new-none.ensures)
    (have_parts c.args.runs.now c.split_at.result.0.now c.split_at.result.1.now c.split_at.ensures.by_index.0
    c.args.rows c.args.cols c.requires.dims).1

pub sum_with_runs-requires-clause-fits : goal.sum_with_runs-requires-clause-fits
sum_with_runs-requires-clause-fits c = omega (
  arith,
  c.requires.fits,
  ap (λ (m : Matrix). total m.counts) c.new-none.ensures,
  total-empty,
  total-parts c.args.runs.now c.split_at.result.0.now c.split_at.result.1.now c.split_at.ensures.by_index.0,
)

pub returns-clause-content : goal.returns-clause-content
returns-clause-content c =
    let rest = content (all_counts (values c.split_at.result.1.now)) in
    content-settled c.args.runs.now c.split_at.result.0.now c.split_at.result.1.now c.split_at.ensures.by_index.0
    c.in_ok-after.after.items c.push.new.self.items c.in_ok-run.run' c.in_ok-sum.sum c.args.rows c.args.cols
    c.in_ok-after.ensures c.in_ok-push.ensures.items (c.in_ok-run.ensures ∙ c.new.ensures)
    (c.in_ok-sum.ensures ∙ ap (λ (m : Matrix). matrix m.rows m.cols (ewise_add m.counts rest)) c.new-none.ensures
    ∙ ap (matrix c.args.rows c.args.cols) (empty-ewise_add rest))

pub returns-clause-dims : goal.returns-clause-dims
returns-clause-dims c =
    let rest = content (all_counts (values c.split_at.result.1.now)) in
    dims-settled c.args.runs.now c.split_at.result.0.now c.split_at.result.1.now c.split_at.ensures.by_index.0
    c.in_ok-after.after.items c.push.new.self.items c.in_ok-run.run' c.in_ok-sum.sum c.args.rows c.args.cols
    c.in_ok-after.ensures c.in_ok-push.ensures.items (c.in_ok-run.ensures ∙ c.new.ensures)
    (c.in_ok-sum.ensures ∙ ap (λ (m : Matrix). matrix m.rows m.cols (ewise_add m.counts rest)) c.new-none.ensures
    ∙ ap (matrix c.args.rows c.args.cols) (empty-ewise_add rest))
    c.requires.dims

pub returns-clause-before : goal.returns-clause-before
returns-clause-before c =
    let rest = content (all_counts (values c.split_at.result.1.now)) in
    before-settled c.args.runs.now c.split_at.result.0.now c.split_at.result.1.now c.split_at.ensures.by_index.0
    c.in_ok-after.after.items c.push.new.self.items c.in_ok-run.run' c.in_ok-sum.sum c.args.rows c.args.cols
    c.in_ok-after.ensures c.in_ok-push.ensures.items (c.in_ok-run.ensures ∙ c.new.ensures)
    (c.in_ok-sum.ensures ∙ ap (λ (m : Matrix). matrix m.rows m.cols (ewise_add m.counts rest)) c.new-none.ensures
    ∙ ap (matrix c.args.rows c.args.cols) (empty-ewise_add rest))
    c.args.kept (omega (arith, c.split_at.ensures.front_len))

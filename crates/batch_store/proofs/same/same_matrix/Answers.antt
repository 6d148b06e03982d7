use Rattle.std.proofs.Common.{◌≡◌, sym, ◌∙◌, ap, ℕ}
use Rattle.std.specs.FinMap.{entries}
use Rattle.hyper_matrix.specs.Matrix.{Matrix}
use Rattle.batch_store.proofs.SameMatrices.{same_matrices}
use Rattle.batch_store.proofs.same.same_matrix.Goals as goal

pub returns-then-cols-other_cols : goal.returns-then-cols-other_cols
returns-then-cols-other_cols c =
    let a = c.args.a.now in
    let b = c.args.b.now in
    let first = λ (p : ℕ × ℕ). p.0 in
    let second = λ (p : ℕ × ℕ). p.1 in
    let rows : a.rows ≡ b.rows = sym (ap first c.dims-rows.ensures.value) ∙ c.if-cols-other_cols.true.0
    ∙ ap first c.dims-other_rows.ensures.value in
    let cols : a.cols ≡ b.cols = sym (ap second c.dims-rows.ensures.value) ∙ c.if-cols-other_cols.true.1
    ∙ ap second c.dims-other_rows.ensures.value in (
      λ h. same_matrices a b rows cols (c.same_cells.ensures.0 h),
      λ e. c.same_cells.ensures.1 (ap (λ (m : Matrix). entries m.counts) e),
    )

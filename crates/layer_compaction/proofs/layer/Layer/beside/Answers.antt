use Rattle.std.proofs.Common.{◌≡◌, ◌+◌, ◌++◌, IfSome, length, ap, ◌∙◌, sym, subst, arith}
use Rattle.std.proofs.lemmas.Bool.Decides.{nat_tests}
use Rattle.hyper_matrix.specs.Counts.{ewise_add, total}
use Rattle.hyper_matrix.specs.Matrix.{Matrix, matrix}
use Rattle.layer_compaction.specs.Shared.{values, HaveDims}
use Rattle.layer_compaction.proofs.CountedLemmas.{counts_beside}
use Rattle.layer_compaction.proofs.KeptRunLemmas.{keeps_beside, content-beside}
use Rattle.layer_compaction.specs.Due.{IsDue}
use Rattle.layer_compaction.proofs.DueLemmas.{due_beside}
use Rattle.layer_compaction.proofs.RunLemmas.{no_runs}
use Rattle.layer_compaction.proofs.layer.Layer.beside.Goals as goal

pub invariant_of-result : goal.invariant_of-result
invariant_of-result c =
    let held = values c.self.inside.runs.items in
    let all = c.in_ok-push_runs.ensures
    ∙ ap (λ l. l ++ values c.deref-2.result.now) (c.in_ok-runs.ensures ∙ ap values c.deref.ensures.value)
    ∙ ap (λ l. held ++ values l) c.deref-2.ensures.value in
    let rows = ap (λ (m : Matrix). m.rows) c.m.view_is ∙ c.requires.rows
    ∙ sym (ap (λ (m : Matrix). m.rows) c.self.view_is) in
    let cols = ap (λ (m : Matrix). m.cols) c.m.view_is ∙ c.requires.cols
    ∙ sym (ap (λ (m : Matrix). m.cols) c.self.view_is) in
    let most : c.in-Some.most ≡ c.m.inside.most + c.self.inside.most = omega (arith, c.in-Some.ensures) in (
      keeps_beside c.push_runs.new.out.items held (values c.m.inside.runs.items) all _ _ _ _
          c.self.invariant.0.is_rows c.self.invariant.0.is_cols c.self.invariant.0.dims
          (subst (λ r. HaveDims r c.self.inside.cols (values c.m.inside.runs.items)) rows
          (subst (λ k. HaveDims c.m.inside.rows k (values c.m.inside.runs.items)) cols c.m.invariant.0.dims))
          (omega (arith, c.m.invariant.0.total_is, c.self.invariant.0.total_is))
          (omega (
            arith,
            c.m.invariant.0.total_is,
            c.self.invariant.0.total_is,
            c.requires.fits,
            ap (λ (m : Matrix). total m.counts) c.self.view_is,
            ap (λ (m : Matrix). total m.counts) c.m.view_is,
          ))
          (omega (arith, most, c.m.invariant.0.few, c.self.invariant.0.few)),
      counts_beside c.self.inside.counted c.self.inside.places held (values c.m.inside.runs.items)
          (values c.push_runs.new.out.items) all c.self.invariant.1,
      due_beside c.self.inside.rows c.self.inside.cols c.in_ok-due.due held (values c.m.inside.runs.items)
          (values c.push_runs.new.out.items) all (subst (λ due. IfSome due (λ d. IsDue c.self.inside.rows
          c.self.inside.cols d held)) (sym c.in_ok-due.ensures) c.self.invariant.2),
    )

pub returns : goal.returns
returns c =
    let held = values c.self.inside.runs.items in
    let all = c.in_ok-push_runs.ensures
    ∙ ap (λ l. l ++ values c.deref-2.result.now) (c.in_ok-runs.ensures ∙ ap values c.deref.ensures.value)
    ∙ ap (λ l. held ++ values l) c.deref-2.ensures.value in
    ap (matrix c.self.inside.rows c.self.inside.cols) (content-beside c.push_runs.new.out.items held
    (values c.m.inside.runs.items) all)
    ∙ (λ i. matrix (c.self.view_is i).rows (c.self.view_is i).cols
    (ewise_add (c.m.view_is i).counts (c.self.view_is i).counts))
    ∙ ap (λ r. matrix r c.args.self.now.cols (ewise_add c.args.m.counts c.args.self.now.counts)) (sym c.requires.rows)
    ∙ ap (λ k. matrix c.args.m.rows k (ewise_add c.args.m.counts c.args.self.now.counts)) (sym c.requires.cols)

pub returns-then-is_empty : goal.returns-then-is_empty
returns-then-is_empty c =
    let none : length c.self.inside.runs.items ≡ 0 = grind (arith, nat_tests, c.is_empty.ensures, c.if-is_empty.true) in
    no_runs c.self.inside.runs.items c.args.m none
    ∙ ap (λ (m : Matrix). matrix c.args.m.rows c.args.m.cols (ewise_add c.args.m.counts m.counts)) c.self.view_is

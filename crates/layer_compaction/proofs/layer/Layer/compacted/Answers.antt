use Rattle.std.proofs.Common.{IfSome, ap, sym, ◌∙◌, subst}
use Rattle.std.specs.Arc.{arc_value}
use Rattle.hyper_matrix.specs.Matrix.{Matrix}
use Rattle.layer_compaction.specs.Shared.{content, values, all_counts, HaveDims}
use Rattle.layer_compaction.specs.Due.{IsDue, part_from, with_one}
use Rattle.layer_compaction.proofs.DueLemmas.{sum_due, content-exchanged, dims-exchanged}
use Rattle.layer_compaction.proofs.layer.Layer.compacted.Goals as goal

pub known_after-counted-requires-clause-sum : goal.known_after-counted-requires-clause-sum
known_after-counted-requires-clause-sum c =
    let runs = values c.self.inside.runs.items in
    let due = subst (λ o. IfSome o (λ d. IsDue c.self.inside.rows c.self.inside.cols d runs)) c.in-Some.is
    c.self.invariant.2
    in
    ap (λ (m : Matrix). m.counts) (c.matrix.ensures ∙ c.deref-2.ensures
    ∙ sum_due c.self.inside.rows c.self.inside.cols c.in-Some.due runs (arc_value c.in-Some-sum.sum.now) due
    c.in-Some-sum.ensures)
    ∙ ap (λ l. content (all_counts (part_from c.in-Some.due.from c.in-Some.due.count (values l))))
    (sym c.deref.ensures.value)

pub with_runs-requires-clause-content : goal.with_runs-requires-clause-content
with_runs-requires-clause-content c =
    let runs = values c.self.inside.runs.items in
    let due = subst (λ o. IfSome o (λ d. IsDue c.self.inside.rows c.self.inside.cols d runs)) c.in-Some.is
    c.self.invariant.2
    in
    let sum = arc_value c.in-Some-sum.sum.now in
    ap (λ l. content (all_counts l)) (c.in_ok-runs.ensures
    ∙ ap (λ l. with_one c.in-Some.due sum (values l)) c.deref-3.ensures.value)
    ∙ content-exchanged c.in-Some.due runs due.within sum
    (ap (λ (m : Matrix). m.counts) (sum_due c.self.inside.rows c.self.inside.cols c.in-Some.due runs sum due
    c.in-Some-sum.ensures))
    ∙ ap (λ (m : Matrix). m.counts) c.self.view_is

pub with_runs-requires-clause-dims : goal.with_runs-requires-clause-dims
with_runs-requires-clause-dims c =
    let runs = values c.self.inside.runs.items in
    let due = subst (λ o. IfSome o (λ d. IsDue c.self.inside.rows c.self.inside.cols d runs)) c.in-Some.is
    c.self.invariant.2
    in
    let sum = arc_value c.in-Some-sum.sum.now in
    let is = sum_due c.self.inside.rows c.self.inside.cols c.in-Some.due runs sum due c.in-Some-sum.ensures in
    let there = dims-exchanged c.in-Some.due runs due.within sum (ap (λ (m : Matrix). m.counts) is)
    c.self.inside.rows c.self.inside.cols (ap (λ (m : Matrix). m.rows) is) (ap (λ (m : Matrix). m.cols) is)
    c.self.invariant.0.dims
    in
    subst (λ (m : Matrix). HaveDims m.rows m.cols (values c.in_ok-runs.runs.items)) c.self.view_is
    (subst (HaveDims c.self.inside.rows c.self.inside.cols) (sym (c.in_ok-runs.ensures
    ∙ ap (λ l. with_one c.in-Some.due sum (values l)) c.deref-3.ensures.value)) there)

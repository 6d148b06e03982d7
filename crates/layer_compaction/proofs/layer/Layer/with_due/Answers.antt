use Rattle.std.proofs.Common.{IfSome, ap, ◌∙◌, sym, subst, arith}
use Rattle.std.proofs.lemmas.List.{take_rest}
use Rattle.std.specs.FinMap.{len}
use Rattle.hyper_matrix.specs.Counts.{total}
use Rattle.hyper_matrix.specs.Matrix.{Matrix}
use Rattle.layer_compaction.specs.Shared.{values, HaveDims}
use Rattle.layer_compaction.specs.Due.{IsDue}
use Rattle.layer_compaction.proofs.CountedLemmas.{few_behind}
use Rattle.layer_compaction.proofs.layer.Layer.with_due.Goals as goal

pub invariant_of-result : goal.invariant_of-result
invariant_of-result c =
    let runs = c.args.runs.items in
    let same = ap (λ (m : Matrix). m.counts) c.self.view_is ∙ sym c.requires.content in
    let bounds = rw (take_rest c.deref.result.now c.args.counted) at c.entries_bound.ensures in
    let behind = rw c.deref.ensures.value at bounds in (
      record {
        is_rows = c.self.invariant.0.is_rows;
        is_cols = c.self.invariant.0.is_cols;
        dims = subst (λ (m : Matrix). HaveDims m.rows m.cols (values runs)) (sym c.self.view_is) c.requires.dims;
        total_is = c.self.invariant.0.total_is ∙ ap total same;
        fits = omega (arith, c.self.invariant.0.fits, ap total same);
        few = omega (
          arith,
          c.min-most.ensures,
          c.saturating_add-bound.ensures,
          c.self.invariant.0.few,
          ap len same,
          few_behind c.args.counted c.args.places c.self.inside.most runs c.requires.counts
              (omega (arith, c.self.invariant.0.few, ap len same)) c.entries_bound.result (omega arith) behind,
        );
      },
      c.requires.counts,
      subst (λ (m : Matrix). IfSome c.args.due (λ d. IsDue m.rows m.cols d (values runs))) (sym c.self.view_is)
          c.requires.due,
    )

use Rattle.std.proofs.Common.{sym, ap, [], ◌∷◌, ◌∙◌}
use Rattle.hyper_matrix.specs.Matrix.{Matrix}
use Rattle.layer_compaction.proofs.KeptRunLemmas.{keeps_one, counts_one, of_one}
use Rattle.layer_compaction.proofs.layer.Layer.of_run.Goals as goal

pub invariant_of-result : goal.invariant_of-result
invariant_of-result c =
    let m = c.matrix-m.result.now in
    let are = c.in_ok-runs.ensures ∙ ap (λ (x : Matrix). x ∷ []) (sym (c.matrix-m.ensures ∙ c.deref.ensures)) in (
      keeps_one c.in_ok-runs.runs.items m are c.dims-rows.result _ _ c.dims-rows.ensures.value
          c.dims-rows.ensures.rows c.dims-rows.ensures.cols c.total-total.ensures.value c.total-total.ensures.fits
          c.entries-most.ensures,
      counts_one c.in_ok-runs.runs.items m are _ c.entries-most.ensures,
      tt,
    )

pub returns : goal.returns
returns c =
    let is = c.matrix-m.ensures ∙ c.deref.ensures in
    let are = c.in_ok-runs.ensures ∙ ap (λ (x : Matrix). x ∷ []) (sym is) in
    of_one c.in_ok-runs.runs.items c.matrix-m.result.now are c.dims-rows.result c.dims-rows.ensures.value ∙ is

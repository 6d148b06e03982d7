use Rattle.std.proofs.Common.{length, inl, inr, ap, subst, ◌∙◌, arith, below_more}
use Rattle.std.specs.FinMap.{len}
use Rattle.hyper_matrix.specs.Matrix.{Matrix}
use Rattle.layer_compaction.specs.Shared.{values, all_counts}
use Rattle.layer_compaction.specs.Steps.{Takes}
use Rattle.layer_compaction.proofs.LayerLemmas.{length-counts}
use Rattle.layer_cascade.proofs.StepLemmas.{not_here}
use Rattle.layer_cascade.proofs.StepLemmas.{carried_at, carried_first, carried_next, with_layer, meets_rows, meets_cols}
use Rattle.layer_cascade.proofs.StepLemmas.{meets_fits}
use Rattle.layer_cascade.proofs.addition.end_of_carried.Goals as goal

pub places-init : goal.places-init
places-init c = record {
  here = carried_first (all_counts (values c.args.layers.now)) c.args.m c.args.m (λ i. c.args.m);
  least = λ i h. absurd (omega arith);
}

pub taking-requires-clause-rows : goal.taking-requires-clause-rows
taking-requires-clause-rows c =
    meets_rows c.args.layers.now c.places.place c.index-layers-place.result c.deref.result.now (omega arith)
    c.index-layers-place.is c.deref.ensures c.args.m c.places.sum c.places.invariant.here c.requires.dims

pub taking-requires-clause-cols : goal.taking-requires-clause-cols
taking-requires-clause-cols c =
    meets_cols c.args.layers.now c.places.place c.index-layers-place.result c.deref.result.now (omega arith)
    c.index-layers-place.is c.deref.ensures c.args.m c.places.sum c.places.invariant.here c.requires.dims

pub taking-requires-clause-fits : goal.taking-requires-clause-fits
taking-requires-clause-fits c =
    meets_fits c.args.layers.now c.places.place c.index-layers-place.result c.deref.result.now (omega arith)
    c.index-layers-place.is c.deref.ensures c.args.m c.places.sum c.places.invariant.here c.requires.fits

pub returns-in-Ends-clause-sum : goal.returns-in-Ends-clause-sum
returns-in-Ends-clause-sum c =
    let takes = subst (Takes c.deref.result.now c.places.sum _) c.in-Ends.is c.in_ok-layer.ensures in
    with_layer c.args.layers.now c.places.place c.index-layers-place.result c.deref.result.now (omega arith)
    c.index-layers-place.is c.deref.ensures c.args.m c.places.sum c.places.invariant.here
    c.in-Ends.layer takes.0

pub returns-in-Ends-clause-place : goal.returns-in-Ends-clause-place
returns-in-Ends-clause-place c =
    let takes = subst (Takes c.deref.result.now c.places.sum _) c.in-Ends.is c.in_ok-layer.ensures in (
      omega (arith, c.requires.count, length-counts c.args.layers.now),
      inr (omega (arith, takes.1, ap (λ (m : Matrix). len m.counts) (returns-in-Ends-clause-sum c))),
      c.places.invariant.least,
    )

pub places-preserved : goal.places-preserved
places-preserved c =
    let takes = subst (Takes c.deref.result.now c.places.sum _) c.in-Carries.is c.in_ok-layer.ensures in
    let sum = with_layer c.args.layers.now c.places.place c.index-layers-place.result c.deref.result.now (omega arith)
    c.index-layers-place.is c.deref.ensures c.args.m c.places.sum c.places.invariant.here
    c.in-Carries.carried takes.0 in
    record {
      here = carried_next c.args.layers.now c.places.place c.index-layers-place.result c.deref.result.now (omega arith)
          c.index-layers-place.is c.deref.ensures c.args.m c.places.sum c.places.invariant.here
          c.in-Carries.carried takes.0;
      least = below_more _ _ c.places.invariant.least
          (not_here (all_counts (values c.args.layers.now)) c.args.cuts.now c.args.m.counts c.places.place
          (length-counts c.args.layers.now ∙ c.requires.count) (omega arith)
          (omega (arith, takes.1, ap (λ (m : Matrix). len m.counts) sum)));
    }

pub taking_any-requires-clause-rows : goal.taking_any-requires-clause-rows
taking_any-requires-clause-rows c =
    meets_rows c.args.layers.now (length c.args.cuts.now) c.index-layers-place-2.result c.deref-2.result.now
    (omega (arith, c.requires.count)) c.index-layers-place-2.is c.deref-2.ensures c.args.m c.places.sum
    (carried_at (all_counts (values c.args.layers.now)) c.places.sum c.args.m c.places.place
    (length c.args.cuts.now) (omega (arith, c.places-test.false)) c.places.invariant.here)
    c.requires.dims

pub taking_any-requires-clause-cols : goal.taking_any-requires-clause-cols
taking_any-requires-clause-cols c =
    meets_cols c.args.layers.now (length c.args.cuts.now) c.index-layers-place-2.result c.deref-2.result.now
    (omega (arith, c.requires.count)) c.index-layers-place-2.is c.deref-2.ensures c.args.m c.places.sum
    (carried_at (all_counts (values c.args.layers.now)) c.places.sum c.args.m c.places.place
    (length c.args.cuts.now) (omega (arith, c.places-test.false)) c.places.invariant.here)
    c.requires.dims

pub taking_any-requires-clause-fits : goal.taking_any-requires-clause-fits
taking_any-requires-clause-fits c =
    meets_fits c.args.layers.now (length c.args.cuts.now) c.index-layers-place-2.result c.deref-2.result.now
    (omega (arith, c.requires.count)) c.index-layers-place-2.is c.deref-2.ensures c.args.m c.places.sum
    (carried_at (all_counts (values c.args.layers.now)) c.places.sum c.args.m c.places.place
    (length c.args.cuts.now) (omega (arith, c.places-test.false)) c.places.invariant.here)
    c.requires.fits

pub returns-clause-place : goal.returns-clause-place
returns-clause-place c = (
  omega (arith, c.requires.count, length-counts c.args.layers.now),
  inl (omega (arith, c.requires.count, length-counts c.args.layers.now)),
  (λ i h. c.places.invariant.least i (omega (arith, h, c.places-test.false))),
)

pub returns-clause-sum : goal.returns-clause-sum
returns-clause-sum c =
    with_layer c.args.layers.now (length c.args.cuts.now) c.index-layers-place-2.result c.deref-2.result.now
    (omega (arith, c.requires.count)) c.index-layers-place-2.is c.deref-2.ensures c.args.m c.places.sum
    (carried_at (all_counts (values c.args.layers.now)) c.places.sum c.args.m c.places.place
    (length c.args.cuts.now) (omega (arith, c.places-test.false)) c.places.invariant.here)
    c.in_ok-layer-2.layer c.in_ok-layer-2.ensures

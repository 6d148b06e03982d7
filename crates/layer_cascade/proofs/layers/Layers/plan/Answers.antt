use Rattle.std.proofs.Common.{◌≡◌, ◌++◌, ap, sym, ◌∙◌, arith}
use Rattle.std.proofs.lemmas.List.{take-append-drop}
use Rattle.std.specs.Arc.{arc_value}
use Rattle.std.specs.FinMap.{len}
use Rattle.layer_compaction.specs.Shared.{values, all_counts}
use Rattle.layer_cascade.specs.Stored.{seen_layers, lowest}
use Rattle.layer_cascade.proofs.KeptLemmas.{planned_layers, keeps_planned, live_dims, live_fits}
use Rattle.layer_cascade.proofs.layers.Layers.plan.Goals as goal

parted : (c : goal.After-deref-2) → c.deref.result.now ≡ c.split_at.result.0.now ++ c.split_at.result.1.now
parted c = sym (take-append-drop _ c.deref.result.now)
    ∙ (λ i. sym c.split_at.ensures.front i ++ sym c.split_at.ensures.back i)

pub cascade_end-requires-clause-dims : goal.cascade_end-requires-clause-dims
cascade_end-requires-clause-dims c =
    live_dims _ _ _ _ _ _ c.split_at.result.1.now _ c.args.m.now c.args.self.now c.self.invariant (parted c)
    c.deref.ensures.value c.self.view_is c.requires.rows c.requires.cols

pub cascade_end-requires-clause-fits : goal.cascade_end-requires-clause-fits
cascade_end-requires-clause-fits c =
    live_fits _ _ _ _ _ _ c.split_at.result.1.now _ c.args.m.now c.args.self.now c.self.invariant (parted c)
    c.deref.ensures.value c.self.view_is c.requires.fits

pub invariant_of-after : goal.invariant_of-after
invariant_of-after c =
    keeps_planned _ _ _ _ _ _ _ _ _ _ _ _ _ _ _ c.self.invariant
    (sym (take-append-drop _ c.deref.result.now)
    ∙ (λ i. sym c.split_at.ensures.front i ++ sym c.split_at.ensures.back i))
    (omega (arith, c.split_at.ensures.front_len, c.len.ensures))
    c.in_ok-end.ensures.place c.in_ok-end.ensures.sum c.in_ok-layers.ensures c.in_ok-cuts.ensures.cases
    c.deref.ensures.value c.deref-2.ensures.value
    c.args.self.now c.self.view_is c.requires.rows c.requires.cols c.requires.fits c.in_ok-empty.ensures
    (omega (
      arith,
      c.are_countable.ensures c.if-not-are_countable.false,
      ap (λ s. len (lowest (seen_layers (all_counts (values s))))) c.deref-3.ensures.value,
    ))

pub returns : goal.returns
returns c =
    planned_layers _ _ _ _ _ _ _ _ _ _ _ (arc_value c.in_ok-empty.empty) _ _ _ c.self.invariant
    (sym (take-append-drop _ c.deref.result.now)
    ∙ (λ i. sym c.split_at.ensures.front i ++ sym c.split_at.ensures.back i))
    (omega (arith, c.split_at.ensures.front_len, c.len.ensures))
    c.in_ok-end.ensures.place c.in_ok-end.ensures.sum c.in_ok-layers.ensures c.in_ok-cuts.ensures.cases
    c.deref.ensures.value c.deref-2.ensures.value c.args.self.now c.self.view_is

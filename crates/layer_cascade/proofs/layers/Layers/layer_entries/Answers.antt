use Rattle.std.proofs.Common.{◌≡◌, ℕ, zero, suc, ◌+◌, ◌-◌, ◌≤◌, Some, length, refl, sym, ap, ◌∙◌, arith}
use Rattle.std.proofs.lemmas.List.{length-map}
use Rattle.std.specs.Arc.{arc_value, arc_slice_items}
use Rattle.std.specs.FinMap.{len}
use Rattle.hyper_matrix.specs.Counts.{ewise_add}
use Rattle.hyper_matrix.specs.Matrix.{Matrix}
use Rattle.layer_cascade.specs.Layering.{Layering, entries_of_layer}
use Rattle.layer_cascade.proofs.BelowLemmas.{entries_before, entries_last, entries_past, last_is}
use Rattle.layer_cascade.proofs.layers.Layers.layer_entries.Goals as goal
use Rattle.layer_cascade.proofs.layers.Layers.layer_entries.Goals.{then-i-eq0-via-then-i-eq0}
use Rattle.layer_cascade.proofs.layers.Layers.layer_entries.Goals.{then-i-eq0-via-else-i-eq0+then-i-last}

positive : (i : ℕ) → (i ≡ 0 → ⊥) → 1 ≤ i
positive zero h = absurd (h refl)
positive (suc i) h = omega arith

pub returns-then-i-eq0 : goal.returns-then-i-eq0
returns-then-i-eq0 c =
    elim c.then-i-eq0.branch [
      | then-i-eq0-via-then-i-eq0 w ↦ ap (entries_of_layer c.args.self.now.layers) (sym w.if-i-eq0.true)
      | then-i-eq0-via-else-i-eq0+then-i-last w ↦
          sym (entries_past c.args.self.now.layers (c.args.i - 1)
          (omega (
            arith,
            w.if-i-last.true,
            c.len-last.ensures,
            c.self.invariant.told.count,
            ap (λ (v : Layering). length v.layers) c.self.view_is,
          )))
          ∙ ap (entries_of_layer c.args.self.now.layers) {x = suc (c.args.i - 1)} {y = c.args.i}
          (omega (arith, w.if-i-last.true))
    ]

pub returns-then-i-last-2 : goal.returns-then-i-last-2
returns-then-i-last-2 c =
    let items = c.self.inside.layers.items in
    ap Some (c.entries.ensures ∙ ap (λ (m : Matrix). len m.counts) c.deref.ensures)
    ∙ sym (entries_before items (length (arc_slice_items c.self.inside.cuts)) c.args.i c.index-layer.result.now
    (omega (arith, c.self.invariant.count, length-map items arc_value)) (positive c.args.i c.if-i-eq0.false)
    c.index-layer.ensures (omega (arith, c.if-i-last-2.true, c.len-last.ensures)))
    ∙ ap (λ (v : Layering). entries_of_layer v.layers c.args.i) c.self.view_is

pub entries_over-requires : goal.entries_over-requires
entries_over-requires c =
    let items = c.self.inside.layers.items in
    omega (
      arith,
      c.self.invariant.few,
      ap len (last_is items (length (arc_slice_items c.self.inside.cuts)) c.args.i c.index-layer.result.now
          (omega (arith, c.self.invariant.count, length-map items arc_value)) (omega (arith, c.if-i-last-2.false))
          c.index-layer.ensures c.index.result.now
          (omega (arith, c.if-i-last.false, c.if-i-last-2.false, c.len-last.ensures)) c.index.ensures),
      ap (λ (m : Matrix). len (ewise_add m.counts c.deref-3.result.now.counts)) c.deref-2.ensures,
      ap (λ (m : Matrix). len (ewise_add (arc_value c.index-layer.result.now).counts m.counts)) c.deref-3.ensures,
    )

pub returns : goal.returns
returns c =
    let items = c.self.inside.layers.items in
    ap Some (c.entries_over.ensures ∙ (λ i. len (ewise_add (c.deref-2.ensures i).counts (c.deref-3.ensures i).counts)))
    ∙ sym (entries_last items (length (arc_slice_items c.self.inside.cuts)) c.args.i c.index-layer.result.now
    (omega (arith, c.self.invariant.count, length-map items arc_value)) (omega (arith, c.if-i-last-2.false))
    c.index-layer.ensures c.index.result.now
    (omega (arith, c.if-i-last.false, c.if-i-last-2.false, c.len-last.ensures)) c.index.ensures)
    ∙ ap (λ (v : Layering). entries_of_layer v.layers c.args.i) c.self.view_is

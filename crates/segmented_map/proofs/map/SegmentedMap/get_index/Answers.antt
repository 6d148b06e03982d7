use Rattle.std.proofs.Common.{◌-◌, sym, ◌∙◌, ap, arith, slice_get}
use Rattle.segmented_map.specs.Segments.{entries_in}
use Rattle.segmented_map.proofs.Positions.{get-front}
use Rattle.segmented_map.proofs.MapLaws.{entry_last}
use Rattle.segmented_map.proofs.map.SegmentedMap.get_index.Goals as goal

pub returns-then-index-self : goal.returns-then-index-self
returns-then-index-self g c = record {
  entry = c.get_index.ensures.entry
      ∙ sym (entry_last g.met.K.Eq.laws _ _ _ c.self.invariant c.args.index (c.args.index - c.self.inside.earlier)
      (omega (arith, c.if-index-self.true)))
      ∙ ap (λ m. slice_get m.entries c.args.index) c.self.view_is;
}

pub returns-else-index-self : goal.returns-else-index-self
returns-else-index-self g c = record {
  entry = c.entry_at.ensures
      ∙ ap (λ ms. slice_get (entries_in ms) c.args.index) c.deref.ensures.value
      ∙ sym (get-front (entries_in c.self.inside.full.items) c.self.inside.last.entries c.args.index
      (omega (arith, c.if-index-self.false, c.self.invariant.earlier)))
      ∙ ap (λ m. slice_get m.entries c.args.index) c.self.view_is;
}

use Rattle.std.proofs.Common.{◌+◌, ◌++◌, sym, ◌∙◌, ap, refl, subst, arith, slice_get, position}
use Rattle.std.specs.List.{IsDistinct}
use Rattle.std.specs.Map.{keys_of}
use Rattle.std.proofs.lemmas.Option.{slice_get_within}
use Rattle.indexmap.specs.IndexMap.{index_map_len, index_of}
use Rattle.segmented_map.specs.Segments.{entries_in}
use Rattle.segmented_map.proofs.Positions.{get-within}
use Rattle.segmented_map.proofs.MapLaws.{distinct_earlier, place_last, entry_last, place_earlier, if_some}
use Rattle.segmented_map.proofs.map.SegmentedMap.get_full.Goals as goal

pub overflow_add-result : goal.overflow_add-result
overflow_add-result g c =
    omega (
      arith,
      c.len-len.type_inv,
      c.len-len.ensures.value,
      ap index_map_len c.self.view_is,
      slice_get_within (entries_in c.self.inside.full.items ++ c.self.inside.last.entries)
          (c.self.inside.earlier + c.in-Some.index) (c.in-Some.stored.now, c.in-Some.value.now)
          (entry_last g.met.K.Eq.laws _ _ _ c.self.invariant _ c.in-Some.index refl ∙ c.in-Some.ensures.entry),
    )

pub find-requires-clause-unique : goal.find-requires-clause-unique
find-requires-clause-unique g c =
    subst (λ ms. IsDistinct g.K.PartialEq.eq (keys_of (entries_in ms))) (sym c.deref.ensures.value)
    (distinct_earlier g.met.K.Eq.laws _ _ _ c.self.invariant)

pub returns-in-Some-clause-index : goal.returns-in-Some-clause-index
returns-in-Some-clause-index g c =
    sym (place_last g.met.K.Eq.laws _ _ _ c.self.invariant c.args.key.now c.in-Some.index (sym c.in-Some.ensures.index))
    ∙ ap (λ m. index_of g.K.PartialEq.eq m c.args.key.now) c.self.view_is

pub returns-in-Some-clause-entry : goal.returns-in-Some-clause-entry
returns-in-Some-clause-entry g c =
    sym (ap (λ m. slice_get m.entries (c.self.inside.earlier + c.in-Some.index)) c.self.view_is)
    ∙ entry_last g.met.K.Eq.laws _ _ _ c.self.invariant _ c.in-Some.index refl ∙ c.in-Some.ensures.entry

pub returns-in-None-clause-index : goal.returns-in-None-clause-index
returns-in-None-clause-index g c =
    c.find.ensures.index
    ∙ ap (λ ms. position (g.K.PartialEq.eq c.args.key.now) (keys_of (entries_in ms))) c.deref.ensures.value
    ∙ sym (place_earlier g.met.K.Eq.laws _ _ _ c.self.invariant c.args.key.now (sym c.in-None.ensures.index))
    ∙ ap (λ m. index_of g.K.PartialEq.eq m c.args.key.now) c.self.view_is

pub returns-in-None-clause-entry : goal.returns-in-None-clause-entry
returns-in-None-clause-entry g c =
    if_some c.find.result _ _ (λ p h. sym (ap (λ m. slice_get m.entries p.0) c.self.view_is)
    ∙ get-within (entries_in c.self.inside.full.items) c.self.inside.last.entries p.0 _
    (sym (ap (λ ms. slice_get (entries_in ms) p.0) c.deref.ensures.value) ∙ h)) c.find.ensures.entry

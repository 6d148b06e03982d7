use Rattle.std.proofs.Common.{[], ◌∷◌, ◌++◌, ◌∙◌, ap, arith, length-append}
use Rattle.indexmap.specs.IndexMap.{index_map_len}
use Rattle.segmented_map.specs.Segments.{entries_in}
use Rattle.segmented_map.proofs.MapLaws.{entries_added, keeps_added}
use Rattle.segmented_map.proofs.map.SegmentedMap.add_segment.Goals as goal

pub invariant_of-self-2 : goal.invariant_of-self-2
invariant_of-self-2 g c =
    keeps_added g.met.K.Eq.laws c.self.inside.full.items c.self.inside.last _ c.self.invariant
    c.push_reserved.new.self.items c.replace-filled.new.dest c.len-held.result
    (c.push_reserved.ensures.items ∙ (λ j. c.reserve.ensures.items j ++ c.replace-filled.ensures.value j ∷ []))
    (ap (λ m. m.entries) c.replace-filled.ensures.after ∙ c.in_ok-next.ensures.empty)
    (omega (
      arith,
      c.len-held.ensures.value,
      ap index_map_len c.self.view_is,
      c.self.invariant.earlier,
      length-append (entries_in c.self.inside.full.items) c.self.inside.last.entries,
    )) (omega (arith, c.if-held-gt-MOST_EARLIER.false))

pub returns-clause-entries : goal.returns-clause-entries
returns-clause-entries g c =
    entries_added g.met.K.Eq.laws c.self.inside.full.items c.self.inside.last _ c.self.invariant
    c.push_reserved.new.self.items c.replace-filled.new.dest
    (c.push_reserved.ensures.items ∙ (λ j. c.reserve.ensures.items j ++ c.replace-filled.ensures.value j ∷ []))
    (ap (λ m. m.entries) c.replace-filled.ensures.after ∙ c.in_ok-next.ensures.empty)
    ∙ ap (λ m. m.entries) c.self.view_is

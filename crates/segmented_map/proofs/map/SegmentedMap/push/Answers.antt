use Rattle.std.proofs.Common.{[], ◌∷◌, ◌++◌, ◌∙◌, ap}
use Rattle.indexmap.specs.IndexMap.{get}
use Rattle.segmented_map.specs.Segments.{entries_in}
use Rattle.segmented_map.proofs.MapLaws.{none_behind, entries_pushed, keeps_push}
use Rattle.segmented_map.proofs.map.SegmentedMap.push.Goals as goal

pub append-requires-clause-absent : goal.append-requires-clause-absent
append-requires-clause-absent g c =
    none_behind (g.K.PartialEq.eq c.args.key) (entries_in c.self.inside.full.items) c.self.inside.last.entries
    (ap (λ m. get g.K.PartialEq.eq m c.args.key) c.self.view_is ∙ c.requires.absent)

pub invariant_of-self : goal.invariant_of-self
invariant_of-self g c =
    keeps_push g.met.K.Eq.laws _ _ _ c.self.invariant c.append.new.map c.args.key c.args.value
    (ap (λ m. get g.K.PartialEq.eq m c.args.key) c.self.view_is ∙ c.requires.absent) c.append.ensures.entries

pub returns-clause-entries : goal.returns-clause-entries
returns-clause-entries g c =
    entries_pushed g.met.K.Eq.laws _ _ _ c.self.invariant c.append.new.map (c.args.key, c.args.value)
    c.append.ensures.entries
    ∙ ap (λ m. m.entries ++ (c.args.key, c.args.value) ∷ []) c.self.view_is

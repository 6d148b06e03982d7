use Rattle.std.proofs.Common.{◌∙◌}
use Rattle.segmented_map.proofs.MapLaws.{found_is}
use Rattle.segmented_map.proofs.map.SegmentedMap.contains_key.Goals as goal

pub returns : goal.returns
returns g c = c.is_some.ensures
    ∙ found_is _ c.get_full.result (g.K.PartialEq.eq c.args.key.now) c.args.self.now.entries c.get_full.ensures.index

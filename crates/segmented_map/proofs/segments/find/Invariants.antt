use Rattle.std.proofs.Common.{◌≡◌, ◌≤◌, length, position, take}
use Rattle.std.specs.Map.{keys_of}
use Rattle.segmented_map.specs.Segments.{entries_in}
use Rattle.segmented_map.proofs.segments.find.Given as goal

abbrev pub invariant-segments : goal.invariant-segments
invariant-segments g l = record {
  within : l.i ≤ length l.segments;
  before : l.before ≡ length (entries_in (take l.i l.segments));
  index : position (g.K.PartialEq.eq l.key) (keys_of (entries_in l.segments)) ≡
      position (g.K.PartialEq.eq l.key) (keys_of (entries_in (take l.i l.segments)));
}

abbrev pub decreases-segments : goal.decreases-segments
decreases-segments g l = l.i

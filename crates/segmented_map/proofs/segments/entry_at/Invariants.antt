use Rattle.std.proofs.Common.{◌≡◌, ◌≤◌, length, slice_get, take}
use Rattle.segmented_map.specs.Segments.{entries_in}
use Rattle.segmented_map.proofs.segments.entry_at.Given as goal

abbrev pub invariant-segments : goal.invariant-segments
invariant-segments g l = record {
  within : l.i ≤ length l.segments;
  before : l.before ≡ length (entries_in (take l.i l.segments));
  entry : slice_get (entries_in l.segments) l.index ≡ slice_get (entries_in (take l.i l.segments)) l.index;
}

abbrev pub decreases-segments : goal.decreases-segments
decreases-segments g l = l.i

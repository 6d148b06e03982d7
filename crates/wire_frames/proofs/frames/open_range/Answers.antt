use Rattle.std.proofs.Common.{refl}
use Rattle.std.proofs.lemmas.List.{drop-drop}
use Rattle.wire_frames.specs.Frames.{number_at}
use Rattle.wire_frames.proofs.frames.open_range.Goals as goal

pub returns : goal.returns
unfolding number_at
returns c = rw (
  c.get_u64-most.ensures.value,
  c.get_pair-start.ensures.rest,
  c.get_pair-cols.ensures.rest,
  c.get_pair-rows.ensures.rest,
) (rw (
  c.get_pair-rows.ensures.pair,
  c.get_pair-cols.ensures.pair,
  c.get_pair-start.ensures.pair,
) (rw (
  c.get_pair-cols.ensures.rest,
  c.get_pair-rows.ensures.rest,
) (rw (drop-drop 16 16 c.args.body, drop-drop 16 32 c.args.body, drop-drop 8 16 c.args.body, drop-drop 8 32 c.args.body) refl)))

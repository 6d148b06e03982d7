use Rattle.std.proofs.Common.{◌≡◌, ◌≤◌, length, drop, map, vec_len}
use Rattle.std.specs.Vec.Iter.{into_iter_items}
use Rattle.byte_io.specs.Scripts.{nonempty_pieces, before_pieces}
use Rattle.byte_io.proofs.script.next_piece.Given as goal

abbrev pub invariant-loop-given : goal.invariant-loop-given
invariant-loop-given l = record {
  within : l.given ≤ vec_len l.present;
  same : before_pieces (drop l.given l.present.items)
      (nonempty_pieces (map (λ piece. piece.items) (into_iter_items l.later)))
      ≡ before_pieces (drop l.initial.given l.initial.present.items)
      (nonempty_pieces (map (λ piece. piece.items) (into_iter_items l.initial.later)));
}

abbrev pub decreases-loop-given : goal.decreases-loop-given
decreases-loop-given l = length (into_iter_items l.later)

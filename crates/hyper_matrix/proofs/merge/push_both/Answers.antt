use Rattle.std.proofs.Common.{◌≤◌, refl, arith}
use Rattle.cells.specs.declared.cell.Cell.{Cell}
use Rattle.hyper_matrix.proofs.ListMergeLaws.{counts_fit, sums_both, sums_picked, one_at_most}
use Rattle.hyper_matrix.proofs.merge.push_both.Goals as goal

abbrev none : Cell
none = record { row = 0; col = 0; count = 0 }

pub overflow_add-x : goal.overflow_add-x
overflow_add-x c = omega (
  arith,
  counts_fit c.args.left.now c.args.right.now c.steps.i c.steps.j none (omega arith) (omega arith),
  c.requires.fits,
)

pub steps-preserved-then-is_same_place : goal.steps-preserved-then-is_same_place
steps-preserved-then-is_same_place c =
    let same = c.is_same_place.ensures.0 c.if-is_same_place.true in
    record {
      left = omega arith;
      right = omega arith;
      room = omega (arith, c.steps.invariant.room, c.push_reserved.ensures.len, c.push_reserved.ensures.capacity);
      sums = λ begun s. sums_both begun c.steps.out.items c.push_reserved.new.self.items c.args.left.now c.args.right.now
          c.steps.i c.steps.j _ none c.requires.left c.requires.right (omega arith) (omega arith) same.0 same.1 refl
          refl refl c.push_reserved.ensures.items (c.steps.invariant.sums begun s);
    }

taken : (c : goal.After-push_reserved-else-is_same_place) → c.number_of-is_left.result ≤ 1
taken c = one_at_most c.precedes.result c.number_of-is_left.result c.number_of-is_left.ensures.yes
    c.number_of-is_left.ensures.no

pub steps-preserved : goal.steps-preserved
steps-preserved c = record {
  left = omega (arith, taken c);
  right = omega (arith, taken c);
  room = omega (
    arith,
    taken c,
    c.steps.invariant.room,
    c.push_reserved-else-is_same_place.ensures.len,
    c.push_reserved-else-is_same_place.ensures.capacity,
  );
  sums = λ begun s. sums_picked begun c.steps.out.items c.push_reserved-else-is_same_place.new.self.items
      c.args.left.now c.args.right.now c.steps.i c.steps.j c.number_of-is_left.result c.picked_cell.result none
      c.requires.left c.requires.right (omega arith) (omega arith) c.push_reserved-else-is_same_place.ensures.items
      (c.steps.invariant.sums begun s) c.precedes.result c.precedes.ensures.0 c.precedes.ensures.1
      (λ same. cc (c.if-is_same_place.false, c.is_same_place.ensures.1 same)) c.number_of-is_left.ensures.yes
      c.number_of-is_left.ensures.no c.picked_cell.ensures.first c.picked_cell.ensures.second;
}

use Rattle.std.proofs.Common.{◌+◌, refl, arith, subst, sym}
use Rattle.cells.specs.declared.cell.Cell.{Cell}
use Rattle.cells.proofs.AddUpLaws.{AreSums, more_at_place, more_behind, both_fit}
use Rattle.cells.proofs.add_up.add_up.Goals as goal
use Rattle.cells.proofs.add_up.add_up.Goals.{then-is_same_place, else-is_same_place}

abbrev none : Cell
none = record { row = 0; col = 0; count = 0 }

pub overflow_add-cells : goal.overflow_add-cells
overflow_add-cells c = omega (
  arith,
  both_fit c.args.cells.now c.cells.cells c.cells.cells c.cells.last c.cells.i none
      c.requires.order c.cells.auto.cells (omega arith) c.cells.invariant,
  c.requires.fits,
)

pub cells-preserved : goal.cells-preserved
cells-preserved c = elim c.if-is_same_place.branch [
  | then-is_same_place w ↦ subst (λ n. AreSums c.args.cells.now c.if-is_same_place.cells n (c.cells.i + 1))
      (sym w.last-is)
      (more_at_place c.args.cells.now c.cells.cells c.if-is_same_place.cells c.cells.last c.cells.i none
      c.requires.order c.cells.auto.cells (omega arith) c.cells.invariant _ refl refl refl
      (c.is_same_place.ensures.0 w.if-is_same_place.true) w.cells-is)
  | else-is_same_place w ↦ subst (λ n. AreSums c.args.cells.now c.if-is_same_place.cells n (c.cells.i + 1))
      (sym w.last-is)
      (more_behind c.args.cells.now c.cells.cells c.if-is_same_place.cells c.cells.last c.cells.i none c.requires.order
      c.cells.auto.cells (omega arith) c.cells.invariant
      (λ same. cc (w.if-is_same_place.false, c.is_same_place.ensures.1 same)) w.cells-is)
]

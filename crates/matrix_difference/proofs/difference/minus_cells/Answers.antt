use Rattle.std.proofs.Common.{◌≡◌, ℕ, ◌+◌, List, drop, Option, subst, sym, ap, ◌∙◌, arith}
use Rattle.cells.specs.declared.cell.Cell.{Cell}
use Rattle.hyper_matrix.specs.Counts.{Place}
use Rattle.hyper_matrix.specs.Cells.{built_of}
use Rattle.matrix_difference.specs.Difference.{IsFirstFall}
use Rattle.matrix_difference.proofs.LoopLemmas.{falls_here, keeps, meets_none, meets_some, at_within, ends_well}
use Rattle.matrix_difference.proofs.LoopLemmas.{ends_falling, joined}
use Rattle.matrix_difference.specs.Walk.{walked}
use Rattle.matrix_difference.specs.declared.walk.Step.TheVariants.{Meet}
use Rattle.matrix_difference.proofs.WalkLaws.{difference_is, first_fall_is, difference_rises, difference_within}
use Rattle.matrix_difference.proofs.difference.minus_cells.Goals as goal
use Rattle.matrix_difference.proofs.difference.minus_cells.Goals.{in-Keep+in_ok-push_cell-in-Keep}
use Rattle.matrix_difference.proofs.difference.minus_cells.Goals.{in-Meet+in-Some+in_ok-push_cell-in-Meet}
use Rattle.matrix_difference.proofs.difference.minus_cells.Goals.{in-Meet+in_default}

pub returns-in-Falls-clause-falls : goal.returns-in-Falls-clause-falls
returns-in-Falls-clause-falls c = λ row col same.
    let r : c.in-Falls.row ≡ row = cc in
    let q : c.in-Falls.col ≡ col = cc in
    subst (λ (p : Place). IsFirstFall (built_of c.args.new.now) (built_of c.args.old.now) p)
    {x = (c.in-Falls.row, c.in-Falls.col)} {y = (row, col)} (λ i. (r i, q i))
    (first_fall_is c.args.new.now c.args.old.now (c.in-Falls.row, c.in-Falls.col) c.requires.new c.requires.old
    (falls_here c.args.new.now c.args.old.now c.cells.more.items c.cells.cell-index c.cells.at c.step_over.result
    c.cell_at.result c.cells-test.true c.cells.invariant c.cell_at.ensures c.step_over.ensures c.in-Falls.row
    c.in-Falls.col c.in-Falls.is))

pub overflow_add-at : goal.overflow_add-at
overflow_add-at c = omega (
  arith,
  at_within c.args.old.now c.cells.at _ c.cell_at.result c.step_over.result c.in-Meet.rest c.cell_at.ensures
      c.step_over.ensures c.in-Meet.is,
)

pub cells-preserved : goal.cells-preserved
cells-preserved c =
    let ns = c.args.new.now in
    let bs = c.args.old.now in
    let n = c.cells.cell-index in
    let more = c.match-step_over.more.items in
    elim c.match-step_over.branch [
      | in-Keep+in_ok-push_cell-in-Keep w ↦
          subst (λ (k : ℕ). walked ns bs ≡ joined more (walked (drop (n + 1) ns) (drop k bs))) (sym w.at-is)
          (keeps ns bs c.cells.more.items n c.cells.at c.step_over.result c.cell_at.result c.cells-test.true
          c.cells.invariant c.cell_at.ensures c.step_over.ensures w.in-Keep.cell more w.in-Keep.is
          ((λ i. (w.more-is i).items) ∙ w.in_ok-push_cell-in-Keep.ensures))
      | in-Meet+in-Some+in_ok-push_cell-in-Meet w ↦
          subst (λ (k : ℕ). walked ns bs ≡ joined more (walked (drop (n + 1) ns) (drop k bs))) (sym w.at-is)
          (meets_some ns bs c.cells.more.items n c.cells.at c.step_over.result c.cell_at.result c.cells-test.true
          c.cells.invariant c.cell_at.ensures c.step_over.ensures w.in-Some.cell more
          (w.in-Meet.is ∙ ap (λ (o : Option Cell). Meet o) w.in-Some.is)
          ((λ i. (w.more-is i).items) ∙ w.in_ok-push_cell-in-Meet.ensures))
      | in-Meet+in_default w ↦
          subst (λ (k : ℕ). walked ns bs ≡ joined more (walked (drop (n + 1) ns) (drop k bs))) (sym w.at-is)
          (subst (λ (xs : List Cell). walked ns bs ≡ joined xs (walked (drop (n + 1) ns) (drop (c.cells.at + 1) bs)))
          (sym (λ i. (w.more-is i).items))
          (meets_none ns bs c.cells.more.items n c.cells.at c.step_over.result c.cell_at.result c.cells-test.true
          c.cells.invariant c.cell_at.ensures c.step_over.ensures
          (w.in-Meet.is ∙ ap (λ (o : Option Cell). Meet o) w.in_default.is)))
    ]

pub returns-in-Some-cell_at-clause-falls : goal.returns-in-Some-cell_at-clause-falls
returns-in-Some-cell_at-clause-falls c = λ row col same.
    let r : c.in-Some-cell_at.cell.row ≡ row = cc in
    let q : c.in-Some-cell_at.cell.col ≡ col = cc in
    subst (λ (p : Place). IsFirstFall (built_of c.args.new.now) (built_of c.args.old.now) p)
    {x = (c.in-Some-cell_at.cell.row, c.in-Some-cell_at.cell.col)} {y = (row, col)} (λ i. (r i, q i))
    (first_fall_is c.args.new.now c.args.old.now (c.in-Some-cell_at.cell.row, c.in-Some-cell_at.cell.col)
    c.requires.new c.requires.old
    (ends_falling c.args.new.now c.args.old.now c.cells.more.items c.cells.cell-index c.cells.at c.in-Some-cell_at.cell
    (omega (arith, c.cells-test.false)) c.cells.invariant (sym c.cell_at-2.ensures ∙ c.in-Some-cell_at.is)))

pub returns-in-None-clause-difference : goal.returns-in-None-clause-difference
returns-in-None-clause-difference c =
    difference_is c.args.new.now c.args.old.now c.cells.more.items c.requires.new c.requires.old
    (ends_well c.args.new.now c.args.old.now c.cells.more.items c.cells.cell-index c.cells.at
    (omega (arith, c.cells-test.false)) c.cells.invariant (sym c.cell_at-2.ensures ∙ c.in-None.is))

pub returns-in-None-clause-rises : goal.returns-in-None-clause-rises
returns-in-None-clause-rises c =
    difference_rises c.args.new.now c.args.old.now c.cells.more.items c.requires.new
    (ends_well c.args.new.now c.args.old.now c.cells.more.items c.cells.cell-index c.cells.at
    (omega (arith, c.cells-test.false)) c.cells.invariant (sym c.cell_at-2.ensures ∙ c.in-None.is))

pub returns-in-None-clause-within : goal.returns-in-None-clause-within
returns-in-None-clause-within c = λ rows cols within.
    difference_within rows cols c.args.new.now c.args.old.now c.cells.more.items within
    (ends_well c.args.new.now c.args.old.now c.cells.more.items c.cells.cell-index c.cells.at
    (omega (arith, c.cells-test.false)) c.cells.invariant (sym c.cell_at-2.ensures ∙ c.in-None.is))

use Rattle.std.proofs.Common.{◌+◌, ◌∙◌, sym, ap, take, get_or, arith}
use Rattle.std.proofs.lemmas.List.{take_more}
use Rattle.cells.specs.Sums.{cell_total}
use Rattle.cells.specs.declared.cell.Cell.{Cell}
use Rattle.cells.proofs.SumLaws.{total-push, total_take}
use Rattle.cells.proofs.total.total_of.Goals as goal

abbrev none : Cell
none = record { row = 0; col = 0; count = 0 }

pub overflow_add-sum : goal.overflow_add-sum
overflow_add-sum c = omega (
  arith,
  c.loop-cell.invariant,
  total-push (take c.loop-cell.cell-index c.args.cells.now) (get_or c.args.cells.now c.loop-cell.cell-index none),
  ap cell_total (take_more c.args.cells.now c.loop-cell.cell-index none c.loop-cell-test.true),
  total_take c.args.cells.now (c.loop-cell.cell-index + 1),
)

pub loop-cell-preserved : goal.loop-cell-preserved
loop-cell-preserved c =
    ap (λ n. n + (get_or c.args.cells.now c.loop-cell.cell-index none).count) c.loop-cell.invariant
    ∙ sym (total-push (take c.loop-cell.cell-index c.args.cells.now)
    (get_or c.args.cells.now c.loop-cell.cell-index none))
    ∙ sym (ap cell_total (take_more c.args.cells.now c.loop-cell.cell-index none c.loop-cell-test.true))

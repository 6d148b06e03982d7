use Rattle.std.proofs.Common.{arith}
use Rattle.cells.specs.declared.cell.Cell.{Cell}
use Rattle.hyper_matrix.proofs.SearchLaws.{row_begins, row_left, row_goes_on, row_fits}
use Rattle.hyper_matrix.proofs.search.row_total.Goals as goal

pub sum-init : goal.sum-init
sum-init c = row_begins c.args.row c.args.cells.now c.requires.rises c.count_before-i.result c.count_before-i.ensures

pub overflow_add-entries : goal.overflow_add-entries
overflow_add-entries c =
    let d : Cell = record { row = 0; col = 0; count = 0 } in
    omega (
      arith,
      (row_fits c.args.row c.args.cells.now c.requires.rises c.sum.i c.sum.entries c.sum.total c.sum.invariant d
          c.sum-test.true c.if-cells-i.true).0,
    )

pub overflow_add-total : goal.overflow_add-total
overflow_add-total c =
    let d : Cell = record { row = 0; col = 0; count = 0 } in
    omega (
      arith,
      (row_fits c.args.row c.args.cells.now c.requires.rises c.sum.i c.sum.entries c.sum.total c.sum.invariant d
          c.sum-test.true c.if-cells-i.true).1,
      c.requires.fits,
    )

pub sum-preserved : goal.sum-preserved
sum-preserved c =
    let d : Cell = record { row = 0; col = 0; count = 0 } in
    row_goes_on c.args.row c.args.cells.now c.requires.rises c.sum.i c.sum.entries c.sum.total c.sum.invariant d
    c.sum-test.true c.if-cells-i.true

pub returns-else-cells-i : goal.returns-else-cells-i
returns-else-cells-i c =
    let d : Cell = record { row = 0; col = 0; count = 0 } in
    row_left c.args.row c.args.cells.now c.requires.rises c.sum.i c.sum.entries c.sum.total c.sum.invariant d
    c.sum-test.true c.if-cells-i.false

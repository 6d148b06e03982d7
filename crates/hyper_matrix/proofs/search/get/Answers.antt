use Rattle.std.proofs.Common.{map, inl, inr}
use Rattle.hyper_matrix.specs.Cells.{entry_of}
use Rattle.hyper_matrix.proofs.PlaceOrderLaws.{sorted_rising}
use Rattle.hyper_matrix.proofs.SearchLaws.{get_here, get_other, get_none}
use Rattle.hyper_matrix.proofs.search.get.Goals as goal
use Rattle.hyper_matrix.proofs.search.get.Goals.{else-cell-row-via-then-cell-row+else-cell-col}
use Rattle.hyper_matrix.proofs.search.get.Goals.{else-cell-row-via-else-cell-row}

pub returns-in_default : goal.returns-in_default
returns-in_default c = get_none (map entry_of c.args.cells.now) (sorted_rising c.args.cells.now c.requires) c.args.row
    c.args.col c.in_default.ensures

pub returns-then-cell-col : goal.returns-then-cell-col
returns-then-cell-col c = get_here (map entry_of c.args.cells.now) (sorted_rising c.args.cells.now c.requires)
    c.args.row c.args.col c.in-Some.cell.row c.in-Some.cell.col c.in-Some.cell.count c.in-Some.ensures
    c.if-cell-row.true c.if-cell-col.true

pub returns-else-cell-row : goal.returns-else-cell-row
returns-else-cell-row c =
    let sorted = sorted_rising c.args.cells.now c.requires in
    elim c.else-cell-row.branch [
      | else-cell-row-via-then-cell-row+else-cell-col w ↦ get_other (map entry_of c.args.cells.now) sorted c.args.row
          c.args.col c.in-Some.cell.row c.in-Some.cell.col c.in-Some.cell.count c.in-Some.ensures
          (inr w.if-cell-col.false)
      | else-cell-row-via-else-cell-row w ↦ get_other (map entry_of c.args.cells.now) sorted c.args.row c.args.col
          c.in-Some.cell.row c.in-Some.cell.col c.in-Some.cell.count c.in-Some.ensures (inl w.if-cell-row.false)
    ]

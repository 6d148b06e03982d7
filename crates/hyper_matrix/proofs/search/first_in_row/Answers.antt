use Rattle.std.proofs.Common.{map}
use Rattle.hyper_matrix.specs.Cells.{entry_of}
use Rattle.hyper_matrix.proofs.PlaceOrderLaws.{sorted_rising}
use Rattle.hyper_matrix.proofs.SearchLaws.{first_here, none_here, none_at_all}
use Rattle.hyper_matrix.proofs.search.first_in_row.Goals as goal

pub returns-in_default : goal.returns-in_default
returns-in_default c = none_at_all (map entry_of c.args.cells.now) (sorted_rising c.args.cells.now c.requires)
    c.args.row c.args.from c.in_default.ensures

pub returns-then-cell-row : goal.returns-then-cell-row
returns-then-cell-row c = first_here (map entry_of c.args.cells.now) (sorted_rising c.args.cells.now c.requires)
    c.args.row c.args.from c.in-Some.cell.row c.in-Some.cell.col c.in-Some.cell.count c.in-Some.ensures
    c.if-cell-row.true

pub returns-else-cell-row : goal.returns-else-cell-row
returns-else-cell-row c = none_here (map entry_of c.args.cells.now) (sorted_rising c.args.cells.now c.requires)
    c.args.row c.args.from c.in-Some.cell.row c.in-Some.cell.col c.in-Some.cell.count c.in-Some.ensures
    c.if-cell-row.false

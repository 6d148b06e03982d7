use Rattle.cells.specs.declared.cell.Cell.{Cell}
use Rattle.hyper_matrix.proofs.SearchLaws.{first_told, none_told}
use Rattle.hyper_matrix.proofs.search.first_from.Goals as goal

pub returns-then-i-cells : goal.returns-then-i-cells
returns-then-i-cells c =
    let d : Cell = record { row = 0; col = 0; count = 0 } in
    first_told c.args.cells.now c.args.place c.count_before-i.result c.requires c.count_before-i.ensures d
    c.if-i-cells.true

pub returns-else-i-cells : goal.returns-else-i-cells
returns-else-i-cells c = none_told c.args.cells.now c.args.place c.count_before-i.result c.requires
    c.count_before-i.ensures c.if-i-cells.false

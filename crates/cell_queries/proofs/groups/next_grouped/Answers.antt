use Rattle.hyper_matrix.specs.Cells.{entry_of}
use Rattle.cell_queries.proofs.GroupLaws.{ends_after}
use Rattle.cell_queries.proofs.groups.next_grouped.Goals as goal

pub returns-then-cell-groups-clause-cell : goal.returns-then-cell-groups-clause-cell
returns-then-cell-groups-clause-cell g c =
    ends_after c.args.groups.now _ _ (entry_of c.in_ok-cell.cell) c.in_ok-cell.ensures c.requires.from
    c.if-cell-groups.true

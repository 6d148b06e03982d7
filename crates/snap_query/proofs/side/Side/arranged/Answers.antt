use Rattle.std.proofs.Common.{sym, ap, ◌∙◌}
use Rattle.std.specs.FinMap.{entries}
use Rattle.hyper_matrix.specs.Cells.{built_of}
use Rattle.snap_query.specs.Queries.{by_side}
use Rattle.snap_query.proofs.TurnLaws.{entries_of_list, entries_turned_of}
use Rattle.snap_query.proofs.side.Side.arranged.Goals as goal

pub returns-in-Rows : goal.returns-in-Rows
returns-in-Rows c = sym (entries_of_list c.args.cells.items c.requires.rises)
    ∙ ap (λ s. entries (by_side s (built_of c.args.cells.items))) (sym c.in-Rows.is)

pub returns-in-Cols : goal.returns-in-Cols
returns-in-Cols c = entries_turned_of c.args.cells.items c.turned.result.items c.requires.rises c.turned.ensures.rises
    c.turned.ensures.cells
    ∙ ap (λ s. entries (by_side s (built_of c.args.cells.items))) (sym c.in-Cols.is)

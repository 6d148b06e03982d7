use Rattle.std.proofs.Common.{List, Some, None, get_or, ap, sym, ◌∙◌}
use Rattle.std.proofs.lemmas.Option.{slice_get-get_or, slice_get_past}
use Rattle.std.specs.List.{slice_get}
use Rattle.cells.specs.declared.cell.Cell.{Cell}
use Rattle.hyper_matrix.proofs.QueryLaws.{cell_is}
use Rattle.hyper_matrix.proofs.hyper.Hyper.cell_at.Goals as goal

pub returns-then-at-cells-clause-value : goal.returns-then-at-cells-clause-value
returns-then-at-cells-clause-value c =
    let d : Cell = record { row = 0; col = 0; count = 0 } in
    let cells = c.cells-cells.result.now in
    cell_is c.self.inside.piece _ _ _ _ c.self.view_is c.self.invariant (Some (get_or cells c.args.i d)) c.args.i
    (sym (slice_get-get_or cells c.args.i d c.if-at-cells.true)
    ∙ ap (λ (l : List Cell). slice_get l c.args.i) c.cells-cells.ensures)

pub returns-else-at-cells-clause-value : goal.returns-else-at-cells-clause-value
returns-else-at-cells-clause-value c =
    let cells = c.cells-cells.result.now in
    cell_is c.self.inside.piece _ _ _ _ c.self.view_is c.self.invariant None c.args.i
    (sym (slice_get_past cells c.args.i c.if-at-cells.false)
    ∙ ap (λ (l : List Cell). slice_get l c.args.i) c.cells-cells.ensures)

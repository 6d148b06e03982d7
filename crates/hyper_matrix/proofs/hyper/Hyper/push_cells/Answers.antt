use Rattle.std.proofs.Common.{map, ap, sym, ◌++◌, ◌∙◌}
use Rattle.std.proofs.lemmas.List.{map-append}
use Rattle.hyper_matrix.specs.Cells.{entry_of}
use Rattle.hyper_matrix.proofs.QueryLaws.{entries_are}
use Rattle.hyper_matrix.proofs.hyper.Hyper.push_cells.Goals as goal

pub returns-clause-order : goal.returns-clause-order
returns-clause-order c =
    let old = c.args.out.now.items in
    ap (map entry_of) (c.in_ok-extend_from_slice.ensures.items
    ∙ (λ j. c.in_ok-reserve_exact.ensures.items j ++ c.cells-cells.ensures j))
    ∙ map-append entry_of old c.self.inside.piece
    ∙ ap (λ es. map entry_of old ++ es)
    (sym (entries_are c.self.inside.piece _ _ _ _ c.self.view_is c.self.invariant))

use Rattle.std.proofs.Common.{◌<◌, length, sym, ◌∙◌, subst, arith, le_refl, ◌≡◌}
use Rattle.std.specs.List.{Contains}
use Rattle.std.proofs.lemmas.List.{same_lists, length-map, get_or-map}
use Rattle.cells.specs.declared.cell.Cell.{Cell}
use Rattle.snap_export.specs.Labels.{back}
use Rattle.snap_export.proofs.relabel.relabel.Goals as goal

pub relabelled-requires-clause-row : goal.relabelled-requires-clause-row
relabelled-requires-clause-row c =
    let lt : c.cells.cell-index < length c.args.cells.now = omega (arith, c.cells-test.true, c.cells.invariant.all) in
    subst (λ (cell : Cell). Contains c.args.rows.now cell.row)
    (sym (c.cells.invariant.rest c.cells.cell-index _ (le_refl c.cells.cell-index)))
    (c.requires.each_row c.cells.cell-index _ lt)

pub relabelled-requires-clause-col : goal.relabelled-requires-clause-col
relabelled-requires-clause-col c =
    let lt : c.cells.cell-index < length c.args.cells.now = omega (arith, c.cells-test.true, c.cells.invariant.all) in
    subst (λ (cell : Cell). Contains c.args.cols.now cell.col)
    (sym (c.cells.invariant.rest c.cells.cell-index _ (le_refl c.cells.cell-index)))
    (c.requires.each_col c.cells.cell-index _ lt)

pub returns-clause-back : goal.returns-clause-back
returns-clause-back c =
    let all : length c.cells.cells ≡ length c.args.cells.now = omega (arith, c.cells.invariant.all) in
    same_lists _ _ (length-map c.cells.cells (back c.args.rows.now c.args.cols.now) ∙ all) (λ k d h.
    let lt : k < length c.cells.cells =
    omega (arith, h, length-map c.cells.cells (back c.args.rows.now c.args.cols.now)) in
    get_or-map (back c.args.rows.now c.args.cols.now) c.cells.cells k d d lt
    ∙ c.cells.invariant.done k d (omega (arith, c.cells-test.false, all, lt)))

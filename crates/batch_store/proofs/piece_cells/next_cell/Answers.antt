use Rattle.std.proofs.Common.{List, [], Bor, ap, sym, ◌∙◌, Some}
use Rattle.cells.specs.declared.cell.Cell.{Cell}
use Rattle.batch_store.proofs.WalkLaws.{piece_has, first_is, rest_are}
use Rattle.batch_store.proofs.piece_cells.next_cell.Goals as goal

pub returns-in_err-cell-clause-some : goal.returns-in_err-cell-clause-some
returns-in_err-cell-clause-some c = λ e es sorted parts.
    let d : Bor (List Cell) = record { ref_ptr = (0, 0); now = [] } in
    absurd (piece_has c.args.left.now c.in_ok-piece.piece d e es c.requires
    (sym c.in_ok-piece.was ∙ c.first_piece.ensures.some e es sorted parts) parts c.in_err-cell.ensures.cases)

pub returns-clause-some : goal.returns-clause-some
returns-clause-some c = λ e es sorted parts.
    let d : Bor (List Cell) = record { ref_ptr = (0, 0); now = [] } in
    let found = sym c.in_ok-piece.was ∙ c.first_piece.ensures.some e es sorted parts in (
      ap Some (first_is c.args.left.now c.in_ok-piece.piece d e es c.requires found parts c.in_ok-cell.cell.now
          c.in_ok-cell.rest c.in_ok-cell.ensures.cases.0),
      rest_are c.args.left.now c.in_ok-piece.piece d e es c.requires found parts c.in_ok-cell.cell.now c.in_ok-cell.rest
          c.in_ok-cell.ensures.cases.0,
    )

use Rattle.std.proofs.Common.{List, [], ap, arith, get_or, length, sym, ◌∙◌, Bor}
use Rattle.cells.specs.declared.cell.Cell.{Cell}
use Rattle.std.proofs.lemmas.Bool.{false≢true}
use Rattle.batch_store.specs.Walks.{entries_left}
use Rattle.batch_store.proofs.WalkLaws.{leads_next, left_here}
use Rattle.batch_store.proofs.piece_cells.first_piece.Goals.{then-is_next, else-is_next}
use Rattle.batch_store.proofs.piece_cells.first_piece.Goals as goal

pub pieces-preserved : goal.pieces-preserved
pieces-preserved c =
    let left = c.args.left.now in
    let d : Bor (List Cell) = record { ref_ptr = (0, 0); now = [] } in
    let i = c.is_next.ensures in
    elim c.if-is_next.branch [
      | then-is_next w ↦ leads_next (length left) c.pieces.piece (entries_left left) c.pieces.found c.if-is_next.found
          c.pieces.first.now c.if-is_next.first.now (get_or left c.pieces.piece d).now c.is_next.result
          (left_here left c.pieces.piece d c.pieces-test.true) i.none i.last i.both c.pieces.invariant
          (λ yes. (ap (λ x. x.now) w.first-is, w.found-is))
          (λ no. absurd (false≢true (sym no ∙ w.if-is_next.true)))
      | else-is_next w ↦ leads_next (length left) c.pieces.piece (entries_left left) c.pieces.found c.if-is_next.found
          c.pieces.first.now c.if-is_next.first.now (get_or left c.pieces.piece d).now c.is_next.result
          (left_here left c.pieces.piece d c.pieces-test.true) i.none i.last i.both c.pieces.invariant
          (λ yes. absurd (false≢true (sym w.if-is_next.false ∙ yes)))
          (λ no. (ap (λ x. x.now) w.first-is, w.found-is))
    ]

pub returns-clause-some : goal.returns-clause-some
returns-clause-some c = λ e es sorted parts.
    ((c.pieces.invariant.some e es sorted parts).0 (omega (arith, c.pieces-test.false, c.requires))).0

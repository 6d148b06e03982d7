use Rattle.std.proofs.Common.{◌≡◌, length, sym, ◌∙◌, arith}
use Rattle.std.proofs.lemmas.List.{same_lists, length-map, get_or-map}
use Rattle.snap_query.specs.Turned.{turned_cell}
use Rattle.snap_query.proofs.side.turn.Goals as goal

pub returns : goal.returns
returns c =
    let all : length c.cells.cells ≡ length c.args.cells.now = omega (arith, c.cells.invariant.all) in
    same_lists _ _ (all ∙ sym (length-map c.args.cells.now turned_cell)) (λ k d h.
    c.cells.invariant.done k d (omega (arith, c.cells-test.false, all, h))
    ∙ sym (get_or-map turned_cell c.args.cells.now k d d (omega (arith, all, h))))

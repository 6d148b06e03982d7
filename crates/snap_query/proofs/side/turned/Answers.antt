use Rattle.std.proofs.Common.{◌≡◌, ◌++◌, map, take, drop, length, ap, ◌∙◌, arith, append-nil}
use Rattle.std.proofs.lemmas.List.{length-map, drop_all, take_all}
use Rattle.hyper_matrix.specs.Cells.{cell_total}
use Rattle.snap_query.specs.Turned.{turned_cell}
use Rattle.snap_query.proofs.TurnLaws.{total_turned}
use Rattle.snap_query.proofs.side.turned.Goals as goal

pub into_summed-requires : goal.into_summed-requires
into_summed-requires c =
    let list = c.args.cells.items in
    let new = c.turn.new.cells in
    let is : new ≡ map turned_cell list = c.turn.ensures ∙ ap (map turned_cell) c.deref_mut.ensures.value in
    let lengths : length new ≡ length list = ap length is ∙ length-map list turned_cell in
    let all : length new ≡ c.args.cells.len = omega (arith, lengths, ap length c.deref_mut.ensures.value, c.deref_mut.ensures.len) in
    let whole : take c.args.cells.len (new ++ drop (length new) list) ≡ new =
    ap (λ l. take c.args.cells.len (new ++ l)) (drop_all (length new) list (omega (arith, lengths)))
    ∙ ap (take c.args.cells.len) (append-nil new) ∙ take_all c.args.cells.len new (omega (arith, all)) in
    record { fits = omega (arith, ap cell_total whole, ap cell_total is, total_turned list, c.requires) }

use Rattle.std.proofs.Common.{ℕ, List, drop, length, map, sym, ap, arith, ◌∙◌, length-drop}
use Rattle.std.proofs.lemmas.List.{take_rest, drop-drop}
use Rattle.std.specs.Vec.Iter.{into_iter_items}
use Rattle.byte_io.specs.Scripts.{nonempty_pieces, before_pieces, pieces_behind}
use Rattle.byte_io.proofs.ScriptLemmas.{pieces_after_read}
use Rattle.byte_io.proofs.script.Pieces.read.Goals as goal

pub returns-clause-rest : goal.returns-clause-rest
returns-clause-rest c =
    let present = c.next_piece.new.present.items in
    let given = c.next_piece.new.given in
    let later : List (List ℕ) = nonempty_pieces (map (λ piece. piece.items) (into_iter_items c.next_piece.new.later)) in
    let count = rw (c.as_slice.ensures.value, take_rest present given) at c.min-count.ensures in
    let within = c.next_piece.ensures.within in
    let after = pieces_after_read c.min-count.result (length c.args.buf.now) (drop given present) later count
    (λ none. ap (λ l. nonempty_pieces (map (λ piece. piece.items) l))
    (c.next_piece.ensures.last (omega (arith, none, length-drop given present)))) in
    ap (λ l. before_pieces l later) (sym (drop-drop c.min-count.result given present)) ∙ after
    ∙ ap (λ l. pieces_behind (length c.args.buf.now) l) (c.next_piece.ensures.same ∙ c.self.view_is)

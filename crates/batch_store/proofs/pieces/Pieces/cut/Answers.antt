use Rattle.std.proofs.Common.{◌≡◌, ℕ, length, ap, sym, arith, ◌∙◌}
use Rattle.std.proofs.lemmas.List.{length-map}
use Rattle.std.specs.Arc.{arc_value}
use Rattle.hyper_matrix.proofs.PartLaws.{length-parts_below}
use Rattle.layer_compaction.specs.Shared.{values}
use Rattle.batch_store.specs.Pieces.{cut_in, whole_of}
use Rattle.batch_store.proofs.PieceLaws.{cut_is, cut_pieces}
use Rattle.batch_store.proofs.pieces.Pieces.cut.Goals as goal

many : (c : goal.In_ok-list) → length c.in_ok-list.list.items ≡ c.args.count
many c = sym (length-map c.in_ok-list.list.items arc_value)
    ∙ ap length (c.in_ok-list.ensures ∙ c.in_ok-parts.ensures) ∙ length-parts_below c.args.count c.args.count c.args.whole.now

pub of-requires-clause-few : goal.of-requires-clause-few
of-requires-clause-few c = omega (arith, many c, c.requires.few)

pub of-requires-clause-pieces : goal.of-requires-clause-pieces
of-requires-clause-pieces c = cut_pieces c.dims-rows.result.0 c.dims-rows.result.1 c.args.count c.args.whole.now
    (values c.in_ok-list.list.items) (ap (λ p. p.0) c.dims-rows.ensures.value) (ap (λ p. p.1) c.dims-rows.ensures.value)
    c.requires.some (c.in_ok-list.ensures ∙ c.in_ok-parts.ensures)

pub returns : goal.returns
returns c =
    let list = values c.in_ok-list.list.items in
    c.in_ok-pieces.ensures
    ∙ ap (λ (n : ℕ). cut_in n (whole_of c.dims-rows.result.0 c.dims-rows.result.1 list)) (sym (length-map c.in_ok-list.list.items arc_value))
    ∙ cut_is c.dims-rows.result.0 c.dims-rows.result.1 c.args.count c.args.whole.now list
    (ap (λ p. p.0) c.dims-rows.ensures.value) (ap (λ p. p.1) c.dims-rows.ensures.value)
    c.requires.some (c.in_ok-list.ensures ∙ c.in_ok-parts.ensures)

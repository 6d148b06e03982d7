use Rattle.std.proofs.Common.{◌≡◌, ◌∙◌, ◌+◌, sym, ap, arith, get_or}
use Rattle.std.proofs.lemmas.List.{get_or-map, length-map, take-map, take_all}
use Rattle.std.specs.Arc.{arc_value}
use Rattle.layer_compaction.specs.Shared.{values}
use Rattle.batch_store.specs.Walks.{entries_each, entries_left}
use Rattle.batch_store.proofs.MergedLaws.{began_next}
use Rattle.batch_store.proofs.piece_cells.start_each.Goals as goal

pub matrices-preserved : goal.matrices-preserved
matrices-preserved c =
    let list = c.args.list.now in
    let left = c.matrices.left in
    let i = c.matrices.place in
    let x = c.index-list-place.result in
    let m = c.deref.result.now in
    let within = c.matrices-test.true in
    let at : m ≡ get_or (values list) i m =
    c.deref.ensures ∙ ap arc_value c.index-list-place.is ∙ sym (get_or-map arc_value list i x m within) in
    began_next (values list) left i c.as_cells.result m (omega (arith, within, length-map list arc_value))
    (omega (arith, within, c.matrices.auto.left, c.requires)) at c.as_cells.ensures.rises c.as_cells.ensures.builds
    (c.matrices.invariant ∙ ap entries_each (sym (take-map arc_value i list)))
    ∙ ap entries_each (take-map arc_value (i + 1) list)

pub returns : goal.returns
returns c =
    let list = c.args.list.now in
    let left = c.matrices.left in
    let i = c.matrices.place in
    sym (ap entries_left (take_all i left (omega (arith, c.matrices.auto.left, c.requires, c.matrices-test.false))))
    ∙ c.matrices.invariant ∙ ap (λ xs. entries_each (values xs)) (take_all i list c.matrices-test.false)

use Rattle.std.proofs.Common.{◌≡◌, ◌++◌, [], ◌∷◌, sym, ◌∙◌, ap, subst}
use Rattle.std.proofs.lemmas.List.{map-append}
use Rattle.std.proofs.lemmas.Result.{IfOk-at_ok}
use Rattle.std.specs.Arc.{arc_value}
use Rattle.std.specs.Bool.{if◌then◌else◌}
use Rattle.std.specs.Result.{is_ok}
use Rattle.batch_store.specs.Batches.{values}
use Rattle.batch_store.specs.Books.{HaveDims}
use Rattle.batch_store.proofs.BookLaws.{dims_push}
use Rattle.store_tests.proofs.engine.loads.list_of.Goals as goal

pub batches-preserved : goal.batches-preserved
batches-preserved g c =
    let v = c.args.setup.now in
    let b = c.expect-b.result in
    let xs = c.batches.list.items in
    let pushed = subst (λ answer. c.push.new.self.items ≡ if is_ok answer then xs ++ b ∷ [] else xs)
    c.expect.ensures c.push.ensures.items in
    subst (HaveDims v.rows v.cols) (sym (ap values pushed ∙ map-append arc_value xs (b ∷ [])))
    (dims_push v.rows v.cols (values xs)
    (arc_value b) c.batches.invariant (IfOk-at_ok _ c.expect-b.ensures c.batch.ensures.rows)
    (IfOk-at_ok _ c.expect-b.ensures c.batch.ensures.cols))

use Rattle.std.proofs.Common.{[], ◌∷◌, ◌++◌, ◌∙◌, sym, ap, arith, append-nil, append_assoc, take}
use Rattle.std.specs.Arc.{arc_value}
use Rattle.std.proofs.lemmas.List.{map-append, take_all}
use Rattle.batch_store.specs.Batches.{values}
use Rattle.batch_store.proofs.BookFoldLaws.{values_more}
use Rattle.batch_store.proofs.unfolded.push_shared.Goals as goal

pub batches-init : goal.batches-init
batches-init c = record {
  told = ap values c.in_ok-reserve.ensures.items ∙ sym (append-nil (values c.args.list.now.items));
}

pub batches-preserved : goal.batches-preserved
batches-preserved c =
    let items = c.args.batches.now in
    let i = c.batches.batch-index in
    let old = values c.args.list.now.items in
    record {
      told = ap values c.in_ok-push.ensures.items
          ∙ map-append arc_value c.batches.list.items (c.in_ok-shared.shared ∷ [])
          ∙ (λ j. c.batches.invariant.told j ++ c.in_ok-shared.ensures j ∷ [])
          ∙ append_assoc old (values (take i items)) (arc_value c.batch-item.result ∷ [])
          ∙ ap (λ l. old ++ l) (values_more items i c.batch-item.result (omega (arith, c.batches-test.true)) c.batch-item.is);
    }

pub returns : goal.returns
returns c =
    c.batches.invariant.told
    ∙ ap (λ l. values c.args.list.now.items ++ values l)
    (take_all c.batches.batch-index c.args.batches.now (omega (arith, c.batches-test.false)))

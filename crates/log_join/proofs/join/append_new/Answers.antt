use Rattle.std.proofs.Common.{◌≡◌, ◌∙◌, sym, ap, subst, arith}
use Rattle.std.proofs.lemmas.Result.{err_from_is_err_and}
use Rattle.std.specs.Arc.{arc_value}
use Rattle.batch_store.specs.Batches.{values}
use Rattle.log_join.proofs.PlaceLemmas.{item_at}
use Rattle.log_join.proofs.JoinLemmas.{listed_more, fresh_more, judged_here}
use Rattle.log_join.proofs.join.append_new.Goals as goal

pub take_batch-requires-clause-fits : goal.take_batch-requires-clause-fits
take_batch-requires-clause-fits c =
    let bs = c.args.batches.now in
    let d = c.index-batches-i.result in
    c.requires.fit c.batches.i (arc_value d) (item_at bs c.batches.i d c.batches-test.true c.index-batches-i.is)

pub returns-in_err-take_batch-clause-err : goal.returns-in_err-take_batch-clause-err
returns-in_err-take_batch-clause-err c =
    let p = err_from_is_err_and c.from_residual.result c.from_residual.ensures.1 in
    let s = c.args.setup.now in
    let bs = c.args.batches.now in
    let d = c.index-batches-i.result in
    let here = item_at bs c.batches.i d c.batches-test.true c.index-batches-i.is in
    rw (p.1, p.2) (judged_here s c.args.known c.batches.list (values bs) c.batches.i (arc_value d)
    c.batches.invariant.list here _ c.batches.invariant.fresh c.in_err-take_batch.ensures.err)

pub batches-preserved : goal.batches-preserved
batches-preserved c =
    let s = c.args.setup.now in
    let bs = c.args.batches.now in
    let d = c.index-batches-i.result in
    let here = item_at bs c.batches.i d c.batches-test.true c.index-batches-i.is in
    let inv = c.batches.invariant in
    record {
      list = listed_more s c.args.known c.batches.list (values bs) c.batches.i
          (arc_value d) inv.list here
          c.take_batch.new.list c.in_ok-take_batch.ensures.list;
      seen = c.in_ok-take_batch.ensures.seen;
      accepted = c.in_ok-take_batch.ensures.accepted;
      fresh = fresh_more s c.args.known c.batches.list (values bs) c.batches.i
          (arc_value d) inv.list
          here inv.fresh c.in_ok-take_batch.ensures.fresh;
    }

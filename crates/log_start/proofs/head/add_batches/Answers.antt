use Rattle.std.proofs.Common.{◌++◌, take, sym, ap, ◌∙◌, Some}
use Rattle.batch_store.specs.declared.verdict.Entry.{Entry}
use Rattle.batch_store.specs.Batches.{entries_of, values}
use Rattle.log_join.proofs.PlaceLemmas.{entry_item}
use Rattle.log_start.proofs.Summed.{next_fits, next_summed, next_total}
use Rattle.log_start.proofs.head.add_batches.Goals as goal

pub add-requires : goal.add-requires
add-requires c =
    let xs = entries_of (values c.args.batches.now) in
    let here = ap (λ (e : Entry). Some e) c.entry-entry.ensures
    ∙ sym (entry_item c.args.batches.now c.batches.batch-index c.batch-item.result c.deref.result.now
    c.batches-test.true c.batch-item.is c.deref.ensures) in
    record {
      fits = next_fits xs c.batches.batch-index _ here c.args.front.now.total c.batches.front.total
          c.batches.invariant.total c.requires.fits;
    }

pub batches-preserved : goal.batches-preserved
batches-preserved c =
    let xs = entries_of (values c.args.batches.now) in
    let here = ap (λ (e : Entry). Some e) c.entry-entry.ensures
    ∙ sym (entry_item c.args.batches.now c.batches.batch-index c.batch-item.result c.deref.result.now
    c.batches-test.true c.batch-item.is c.deref.ensures) in
    record {
      summed = λ es has.
          next_summed xs c.batches.batch-index _ here c.add.new.self es
          (c.add.ensures.summed (es ++ take c.batches.batch-index xs) (c.batches.invariant.summed es has));
      total = next_total xs c.batches.batch-index _ here c.args.front.now.total c.batches.front.total
          c.add.new.self.total c.batches.invariant.total c.add.ensures.total;
    }

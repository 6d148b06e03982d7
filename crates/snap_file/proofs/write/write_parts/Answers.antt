use Rattle.std.proofs.Common.{arith, sym, ap, ◌∙◌, ◌≡◌, ◌+◌, ◌++◌, length, drop}
use Rattle.std.proofs.lemmas.Result.{err_from_is_err_and, on_ok_weaker, IfErr-weaker}
use Rattle.std.proofs.lemmas.List.{length-map}
use Rattle.crc32c.specs.Remainders.{all_ones, after_bytes}
use Rattle.batch_store.specs.Accepted.{accepted, total_in}
use Rattle.std.specs.Arc.{arc_value}
use Rattle.batch_store.specs.Batches.{values}
use Rattle.snap_file.proofs.BatchLemmas.{batch_next, batch_last, batch_passed, left_behind, head_counted, head_begun}
use Rattle.snap_file.proofs.BatchLemmas.{head_left, past_left, head_of, front_of, past_of, batches_of, batches_begun}
use Rattle.snap_file.proofs.Kept.{total_parts, few_batches}
use Rattle.snap_file.proofs.write.write_parts.Goals as goal

pub returns-in_err-write_checked_batch-clause-err : goal.returns-in_err-write_checked_batch-clause-err
returns-in_err-write_checked_batch-clause-err g c =
    let p = err_from_is_err_and c.from_residual-in_err-write_checked_batch.result
    c.from_residual-in_err-write_checked_batch.ensures.1 in
    let next = batch_next _ _ c.args.w.now _ _ c.loop-batch.writer c.args.batches.now c.loop-batch.batch-index
    c.batch-item.result c.deref.result.now c.loop-batch-test.true c.batch-item.is c.deref.ensures
    c.loop-batch.invariant.written in
    rw (p.1, p.2)
    (c.in_err-write_checked_batch.ensures.err c.args.w.now _ next.front
    (left_behind next.front c.deref.result.now (values (drop (c.loop-batch.batch-index + 1) c.args.batches.now)))
    next.is_writing)

pub loop-batch-preserved : goal.loop-batch-preserved
loop-batch-preserved g c =
    let old = c.loop-batch.invariant in
    let list = values (drop (c.loop-batch.batch-index + 1) c.args.batches.now) in
    let next = batch_next _ _ c.args.w.now _ _ c.loop-batch.writer c.args.batches.now c.loop-batch.batch-index
    c.batch-item.result c.deref.result.now c.loop-batch-test.true c.batch-item.is c.deref.ensures old.written in
    record {
      failures = c.in_ok-write_checked_batch.ensures.failures ∙ old.failures;
      counted = omega (arith, c.in_ok-write_checked_batch.ensures.count, old.counted);
      written = batch_passed _ _ c.args.w.now _ _ _ c.loop-batch.writer c.write_checked_batch.new.writer
          c.deref.result.now list next
          (c.in_ok-write_checked_batch.ensures.ok c.args.w.now _ next.front
          (left_behind next.front c.deref.result.now list) next.all_is next.is_writing);
    }

pub loop-batch-init : goal.loop-batch-init
loop-batch-init g c =
    let list = values c.args.batches.now in
    let a = accepted c.args.base.now.whole.counts c.args.folded.now list in
    let count : length c.args.batches.now ≡ length list = sym (length-map c.args.batches.now arc_value) in
    let sum : c.total.result + c.total_of.result ≡ total_in a = omega (
      arith,
      c.total.ensures,
      c.total_of.ensures,
      c.requires.accepted.based.adds_up,
      total_parts a,
    ) in
    let begun = head_begun _ _ c.args.w.now c.args.origin c.args.setup.now a c.push_front.new.writer
    (c.push_front.ensures.taken ∙ c.new-writer.ensures.taken)
    (head_counted _ _ _ _ _ _ _ c.push_front.ensures.pending count sum)
    (c.push_front.ensures.summed all_ones
    (c.new-writer.ensures.remainder ∙ ap (after_bytes all_ones) (sym c.new-writer.ensures.pending))) in
    record {
      failures = c.in_ok-write_checked_past.ensures.failures ∙ c.in_ok-write_check.ensures.failures;
      counted = omega (
        arith,
        c.push_front.ensures.taken,
        c.push_front.ensures.length,
        c.new-writer.ensures.taken,
        c.in_ok-write_check.ensures.count,
        c.in_ok-write_checked_past.ensures.count,
      );
      written = batches_begun _ _ c.args.w.now _ c.args.origin c.args.setup.now a _
          (c.in_ok-write_checked_past.ensures.ok c.args.w.now _ (front_of c.args.origin c.args.setup.now a)
          (batches_of c.args.origin c.args.setup.now a) (past_left c.args.origin c.args.setup.now a)
          (c.in_ok-write_check.ensures.ok c.args.w.now _ (head_of c.args.origin c.args.setup.now a)
          (past_of c.args.origin c.args.setup.now a ++ batches_of c.args.origin c.args.setup.now a)
          (head_left c.args.origin c.args.setup.now a) begun));
    }

pub returns-in_err-write_check-clause-err : goal.returns-in_err-write_check-clause-err
returns-in_err-write_check-clause-err g c =
    let p = err_from_is_err_and c.from_residual.result c.from_residual.ensures.1 in
    let list = values c.args.batches.now in
    let a = accepted c.args.base.now.whole.counts c.args.folded.now list in
    let count : length c.args.batches.now ≡ length list = sym (length-map c.args.batches.now arc_value) in
    let sum : c.total.result + c.total_of.result ≡ total_in a = omega (
      arith,
      c.total.ensures,
      c.total_of.ensures,
      c.requires.accepted.based.adds_up,
      total_parts a,
    ) in
    let begun = head_begun _ _ c.args.w.now c.args.origin c.args.setup.now a c.push_front.new.writer
    (c.push_front.ensures.taken ∙ c.new-writer.ensures.taken)
    (head_counted _ _ _ _ _ _ _ c.push_front.ensures.pending count sum)
    (c.push_front.ensures.summed all_ones
    (c.new-writer.ensures.remainder ∙ ap (after_bytes all_ones) (sym c.new-writer.ensures.pending))) in
    rw (p.1, p.2) (c.in_err-write_check.ensures.err c.args.w.now _ _ begun)

pub returns-in_err-write_checked_past-clause-err : goal.returns-in_err-write_checked_past-clause-err
returns-in_err-write_checked_past-clause-err g c =
    let p = err_from_is_err_and c.from_residual-in_err-write_checked_past.result
    c.from_residual-in_err-write_checked_past.ensures.1 in
    let list = values c.args.batches.now in
    let a = accepted c.args.base.now.whole.counts c.args.folded.now list in
    let count : length c.args.batches.now ≡ length list = sym (length-map c.args.batches.now arc_value) in
    let sum : c.total.result + c.total_of.result ≡ total_in a = omega (
      arith,
      c.total.ensures,
      c.total_of.ensures,
      c.requires.accepted.based.adds_up,
      total_parts a,
    ) in
    let begun = head_begun _ _ c.args.w.now c.args.origin c.args.setup.now a c.push_front.new.writer
    (c.push_front.ensures.taken ∙ c.new-writer.ensures.taken)
    (head_counted _ _ _ _ _ _ _ c.push_front.ensures.pending count sum)
    (c.push_front.ensures.summed all_ones
    (c.new-writer.ensures.remainder ∙ ap (after_bytes all_ones) (sym c.new-writer.ensures.pending))) in
    rw (p.1, p.2) (c.in_err-write_checked_past.ensures.err c.args.w.now _ (front_of c.args.origin c.args.setup.now a)
    (batches_of c.args.origin c.args.setup.now a)
    (c.in_ok-write_check.ensures.ok c.args.w.now _ (head_of c.args.origin c.args.setup.now a)
    (past_of c.args.origin c.args.setup.now a ++ batches_of c.args.origin c.args.setup.now a)
    (head_left c.args.origin c.args.setup.now a) begun))

pub total_of-requires : goal.total_of-requires
total_of-requires g c =
    let a = accepted c.args.base.now.whole.counts c.args.folded.now (values c.args.batches.now) in
    omega (arith, total_parts a, c.requires.accepted.within, c.requires.accepted.sound.fits)

pub overflow_add-total : goal.overflow_add-total
overflow_add-total g c =
    let a = accepted c.args.base.now.whole.counts c.args.folded.now (values c.args.batches.now) in
    omega (
      arith,
      total_parts a,
      c.requires.accepted.within,
      c.requires.accepted.sound.fits,
      c.total.ensures,
      c.total_of.ensures,
      c.requires.accepted.based.adds_up,
    )

pub write_checked_batch-requires-clause-failures : goal.write_checked_batch-requires-clause-failures
write_checked_batch-requires-clause-failures g c = omega (arith, c.requires.failures, c.loop-batch.invariant.failures)

pub write_checked_batch-requires-clause-countable : goal.write_checked_batch-requires-clause-countable
write_checked_batch-requires-clause-countable g c =
    let a = accepted c.args.base.now.whole.counts c.args.folded.now (values c.args.batches.now) in
    omega (
      arith,
      c.loop-batch.invariant.counted,
      c.loop-batch-test.true,
      few_batches c.args.setup.now a
          c.requires.accepted,
      length-map c.args.batches.now arc_value,
    )

pub finish-requires-clause-failures : goal.finish-requires-clause-failures
finish-requires-clause-failures g c = omega (arith, c.requires.failures, c.loop-batch.invariant.failures)

pub finish-requires-clause-countable : goal.finish-requires-clause-countable
finish-requires-clause-countable g c =
    let a = accepted c.args.base.now.whole.counts c.args.folded.now (values c.args.batches.now) in
    omega (
      arith,
      c.loop-batch.invariant.counted,
      c.loop-batch.auto.batch-index-end,
      few_batches c.args.setup.now a
          c.requires.accepted,
      length-map c.args.batches.now arc_value,
    )

pub push_front-requires : goal.push_front-requires
push_front-requires g c = record { empty = c.new-writer.ensures.pending }

pub write_check-requires : goal.write_check-requires
write_check-requires g c = record {
  failures = c.requires.failures;
  countable = omega (arith, c.push_front.ensures.taken, c.push_front.ensures.length, c.new-writer.ensures.taken);
}

pub write_checked_past-requires-clause-failures : goal.write_checked_past-requires-clause-failures
write_checked_past-requires-clause-failures g c =
    omega (arith, c.requires.failures, c.in_ok-write_check.ensures.failures)

pub write_checked_past-requires-clause-countable : goal.write_checked_past-requires-clause-countable
write_checked_past-requires-clause-countable g c =
    omega (
      arith,
      c.push_front.ensures.taken,
      c.push_front.ensures.length,
      c.new-writer.ensures.taken,
      c.in_ok-write_check.ensures.count,
    )

pub returns-clause-ok : goal.returns-clause-ok
returns-clause-ok g c =
    on_ok_weaker c.finish.result (λ h. h c.args.w.now _
    (batch_last _ _ c.args.w.now _ _ c.loop-batch.writer c.args.batches.now c.loop-batch.batch-index
    c.loop-batch-test.false c.loop-batch.invariant.written)) c.finish.ensures.ok

pub returns-clause-err : goal.returns-clause-err
returns-clause-err g c =
    IfErr-weaker c.finish.result _ _ (λ f h. h c.args.w.now _
    (batch_last _ _ c.args.w.now _ _ c.loop-batch.writer c.args.batches.now c.loop-batch.batch-index
    c.loop-batch-test.false c.loop-batch.invariant.written)) c.finish.ensures.err

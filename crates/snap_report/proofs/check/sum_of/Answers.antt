use Rattle.std.proofs.Common.{ap, sym, ◌∙◌, arith, []}
use Rattle.std.proofs.lemmas.List.{take_all}
use Rattle.hyper_matrix.specs.Matrix.{Matrix}
use Rattle.batch_store.specs.Batches.{values}
use Rattle.hyper_matrix.specs.Counts.{total}
use Rattle.hyper_matrix.proofs.CountLaws.{total-empty}
use Rattle.snap_report.proofs.CheckLemmas.{dims_at, sum_of, sum_begun, sum_fits, sum_more}
use Rattle.snap_report.proofs.check.sum_of.Goals as goal

pub add-requires-clause-rows : goal.add-requires-clause-rows
add-requires-clause-rows c = ap (λ (m : Matrix). m.rows) c.in_ok-whole.ensures ∙ c.requires.based.0 ∙ sym (ap (λ (m : Matrix). m.rows) c.in_ok-empty.ensures)

pub add-requires-clause-cols : goal.add-requires-clause-cols
add-requires-clause-cols c = ap (λ (m : Matrix). m.cols) c.in_ok-whole.ensures ∙ c.requires.based.1 ∙ sym (ap (λ (m : Matrix). m.cols) c.in_ok-empty.ensures)

pub add-requires-clause-fits : goal.add-requires-clause-fits
add-requires-clause-fits c = omega (
  arith,
  c.requires.fits,
  ap (λ (m : Matrix). total m.counts) c.in_ok-whole.ensures,
  ap (λ (m : Matrix). total m.counts) c.in_ok-empty.ensures,
  total-empty,
)

pub loop-batch-init : goal.loop-batch-init
loop-batch-init c = record {
  rows = ap (λ (m : Matrix). m.rows) c.in_ok-layers.ensures ∙ ap (λ (m : Matrix). m.rows) c.in_ok-empty.ensures;
  cols = ap (λ (m : Matrix). m.cols) c.in_ok-layers.ensures ∙ ap (λ (m : Matrix). m.cols) c.in_ok-empty.ensures;
  sum = sum_begun c.in_ok-whole.whole.counts c.in_ok-empty.empty.counts c.in_ok-layers.layers.counts
      (ap (λ (m : Matrix). m.counts) c.in_ok-layers.ensures) (ap (λ (m : Matrix). m.counts) c.in_ok-empty.ensures)
      ∙ ap (λ (m : Matrix). sum_of m.counts []) c.in_ok-whole.ensures;
}

pub with_batch-requires-clause-rows : goal.with_batch-requires-clause-rows
with_batch-requires-clause-rows c =
    (dims_at c.args.setup.now.rows c.args.setup.now.cols c.args.batches.now c.loop-batch.batch-index c.batch-item.result
    c.deref.result.now c.requires.dims c.loop-batch-test.true c.batch-item.is c.deref.ensures).0
    ∙ sym c.loop-batch.invariant.rows

pub with_batch-requires-clause-cols : goal.with_batch-requires-clause-cols
with_batch-requires-clause-cols c =
    (dims_at c.args.setup.now.rows c.args.setup.now.cols c.args.batches.now c.loop-batch.batch-index c.batch-item.result
    c.deref.result.now c.requires.dims c.loop-batch-test.true c.batch-item.is c.deref.ensures).1
    ∙ sym c.loop-batch.invariant.cols

pub with_batch-requires-clause-fits : goal.with_batch-requires-clause-fits
with_batch-requires-clause-fits c =
    sum_fits c.args.base.now.whole.counts c.args.batches.now c.loop-batch.batch-index c.batch-item.result c.deref.result.now
    c.loop-batch-test.true
    c.batch-item.is c.deref.ensures
    c.loop-batch.layers.counts c.loop-batch.invariant.sum c.requires.fits

pub loop-batch-preserved : goal.loop-batch-preserved
loop-batch-preserved c = record {
  rows = c.in_ok-layers-2.ensures.dims.0 ∙ c.loop-batch.invariant.rows;
  cols = c.in_ok-layers-2.ensures.dims.1 ∙ c.loop-batch.invariant.cols;
  sum = sum_more c.args.base.now.whole.counts c.args.batches.now c.loop-batch.batch-index c.batch-item.result
      c.deref.result.now
      c.loop-batch-test.true c.batch-item.is c.deref.ensures
      c.loop-batch.layers.counts c.in_ok-layers-2.layers.counts c.loop-batch.invariant.sum c.in_ok-layers-2.ensures.sum;
}

pub returns-clause-within : goal.returns-clause-within
returns-clause-within c =
    rw (← c.loop-batch.invariant.rows, ← c.loop-batch.invariant.cols) c.in_ok-cells.ensures.within

pub returns-clause-sum : goal.returns-clause-sum
returns-clause-sum c =
    c.in_ok-cells.ensures.sum ∙ c.loop-batch.invariant.sum
    ∙ ap (λ bs. sum_of c.args.base.now.whole.counts (values bs))
    (take_all c.loop-batch.batch-index c.args.batches.now (omega (arith, c.loop-batch-test.false)))

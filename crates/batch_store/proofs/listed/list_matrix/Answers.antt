use Rattle.std.proofs.Common.{◌∙◌, ap, Err, arith}
use Rattle.batch_store.proofs.ListLaws.{built_makes, built_leaves, built_passes, built_none}
use Rattle.batch_store.proofs.listed.list_matrix.Goals as goal

pub returns-in-Ok-clause-fits : goal.returns-in-Ok-clause-fits
returns-in-Ok-clause-fits c =
    built_none _ c.args.cells.now _ _ c.rows-rows.ensures.value c.cols-cols.ensures.value
    (omega (arith, c.if-cells-gt-MAX_CELLS.false))
    (λ e. let told = c.build.ensures.index.1 e in cc) (λ e. let told = c.build.ensures.sum.1 e in cc)

pub returns-in-Err-Memory-clause-err : goal.returns-in-Err-Memory-clause-err
returns-in-Err-Memory-clause-err c =
    built_makes _ c.args.cells.now _ _ c.rows-rows.ensures.value c.cols-cols.ensures.value
    (omega (arith, c.if-cells-gt-MAX_CELLS.false))
    (c.build.ensures.memory (c.in-Err-Memory.is ∙ ap Err c.in-Err-Memory.field-0-is))

pub returns-in-Err-IndexOutOfRange-clause-err : goal.returns-in-Err-IndexOutOfRange-clause-err
returns-in-Err-IndexOutOfRange-clause-err c =
    built_leaves _ c.args.cells.now _ _ c.rows-rows.ensures.value c.cols-cols.ensures.value
    (omega (arith, c.if-cells-gt-MAX_CELLS.false)) _
    (c.build.ensures.index.0 (c.in-Err-IndexOutOfRange.is ∙ ap Err c.in-Err-IndexOutOfRange.field-0-is))
    c.cells_before_outside.ensures

pub returns-in-Err-SumTooLarge-clause-err : goal.returns-in-Err-SumTooLarge-clause-err
returns-in-Err-SumTooLarge-clause-err c =
    built_passes _ c.args.cells.now _ _ c.rows-rows.ensures.value c.cols-cols.ensures.value
    (omega (arith, c.if-cells-gt-MAX_CELLS.false))
    (c.build.ensures.sum.0 (c.in-Err-SumTooLarge.is ∙ ap Err c.in-Err-SumTooLarge.field-0-is))

use Rattle.std.proofs.Common.{◌∙◌, ap, Err}
use Rattle.batch_store.proofs.FileLaws.{too_large, unrefused, never_outside, within_larger}
use Rattle.batch_store.proofs.batch.file_matrix.Goals as goal

pub returns-in-Err-Memory-clause-err : goal.returns-in-Err-Memory-clause-err
returns-in-Err-Memory-clause-err c = unrefused _ _ _ c.args.file.now.cells.items c.deref.ensures.value
    (c.build.ensures.memory (c.in-Err-Memory.is ∙ ap Err c.in-Err-Memory.field-0-is))

pub unreachable-requires : goal.unreachable-requires
unreachable-requires c = never_outside _ _ _ c.args.file.now.cells.items
    (rw (c.rows.ensures.value, c.cols.ensures.value) (within_larger c.args.file.now.rows c.args.file.now.cols
    c.args.setup.now.rows c.args.setup.now.cols c.args.file.now.cells.items c.args.file.now.within
    c.requires.0 c.requires.1))
    c.deref.ensures.value
    (c.build.ensures.index.0 (c.in-Err-IndexOutOfRange.is ∙ ap Err c.in-Err-IndexOutOfRange.field-0-is))

pub returns-in-Err-SumTooLarge-clause-err : goal.returns-in-Err-SumTooLarge-clause-err
returns-in-Err-SumTooLarge-clause-err c = too_large _ _ _ c.args.file.now.cells.items c.deref.ensures.value
    (c.build.ensures.sum.0 (c.in-Err-SumTooLarge.is ∙ ap Err c.in-Err-SumTooLarge.field-0-is))

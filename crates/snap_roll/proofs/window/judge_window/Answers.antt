use Rattle.snap_roll.proofs.HasLemmas.{passed_on}
use Rattle.snap_roll.proofs.window.judge_window.Goals as goal

pub returns-in_err-number-clause-err : goal.returns-in_err-number-clause-err
returns-in_err-number-clause-err c = passed_on c.from_residual.result _ c.in_err-number.field-0.0
    c.from_residual.ensures.1
    (c.in_err-number.ensures.err c.args.setup.now c.args.to.now c.args.book.now)

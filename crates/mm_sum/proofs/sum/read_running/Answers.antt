use Rattle.std.proofs.lemmas.Result.{err_from_is_err_and}
use Rattle.mm_sum.proofs.ReadLemmas.{unread_first}
use Rattle.mm_sum.proofs.sum.read_running.Goals as goal

pub returns-in_err-reader-clause-err : goal.returns-in_err-reader-clause-err
returns-in_err-reader-clause-err g c =
    let p = err_from_is_err_and c.from_residual.result c.from_residual.ensures.1 in
    rw (p.1, p.2) (unread_first g.R.Source.read_gives g.R.Source.at_end g.R.Source.failure_count c.args.r.now)

pub returns-in_err-block-clause-err : goal.returns-in_err-block-clause-err
returns-in_err-block-clause-err g c =
    let p = err_from_is_err_and c.from_residual-in_err-block.result c.from_residual-in_err-block.ensures.1 in
    rw (p.1, p.2) (unread_first g.R.Source.read_gives g.R.Source.at_end g.R.Source.failure_count c.args.r.now)

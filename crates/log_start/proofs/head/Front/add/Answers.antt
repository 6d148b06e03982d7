use Rattle.std.proofs.Common.{arith}
use Rattle.batch_store.proofs.VerdictLaws.{total_push}
use Rattle.log_start.proofs.head.Front.add.Goals as goal

pub returns-clause-summed : goal.returns-clause-summed
returns-clause-summed c = λ es has.
    let more = total_push es c.args.entry.now in
    record { total = omega (arith, more, has.total); link = c.add.ensures es has.link }

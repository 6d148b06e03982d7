use Rattle.std.proofs.Common.{subst, sym}
use Rattle.std.specs.Prelude.{IfOk, IfErr}
use Rattle.snap_salvage.specs.Salvages.{IsSalvaged}
use Rattle.snap_salvage.specs.Reported.{IsUnsalvaged}
use Rattle.snap_salvage.specs.declared.front.Front.{Front}
use Rattle.snap_salvage.proofs.joining.join_front.Goals as goal

pub returns-in-Whole-clause-both : goal.returns-in-Whole-clause-both
returns-in-Whole-clause-both c =
    subst (λ (f : Front). IfOk c.join_log.result (λ s. IsSalvaged c.args.found f s.snapshot s.end s.from))
    (sym c.in-Whole.is) c.join_log.ensures.both

pub returns-in-Whole-clause-err : goal.returns-in-Whole-clause-err
returns-in-Whole-clause-err c =
    subst (λ (f : Front). IfErr c.join_log.result (IsUnsalvaged c.args.found f)) (sym c.in-Whole.is)
    c.join_log.ensures.err

pub returns-in-Before-clause-both : goal.returns-in-Before-clause-both
returns-in-Before-clause-both c =
    subst (λ (f : Front). IfOk c.join_log-in-Before.result (λ s. IsSalvaged c.args.found f s.snapshot s.end s.from))
    (sym c.in-Before.is) c.join_log-in-Before.ensures.both

pub returns-in-Before-clause-err : goal.returns-in-Before-clause-err
returns-in-Before-clause-err c =
    subst (λ (f : Front). IfErr c.join_log-in-Before.result (IsUnsalvaged c.args.found f)) (sym c.in-Before.is)
    c.join_log-in-Before.ensures.err

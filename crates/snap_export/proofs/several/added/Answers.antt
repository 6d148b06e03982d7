use Rattle.std.proofs.Common.{Option, OnErr, subst, sym}
use Rattle.hyper_matrix.specs.Matrix.{Matrix}
use Rattle.snap_export.specs.Steps.{IsSumOf, FitsBehind}
use Rattle.snap_export.proofs.SeveralLemmas.{stays_passed}
use Rattle.snap_export.proofs.several.added.Goals as goal

pub returns-in-Some-clause-memory : goal.returns-in-Some-clause-memory
returns-in-Some-clause-memory c =
    subst (λ (sum : Option Matrix). OnErr c.grown.result (FitsBehind sum c.args.snapshot)) (sym c.in-Some.is)
    c.grown.ensures.memory

pub returns-in-None-clause-sum : goal.returns-in-None-clause-sum
returns-in-None-clause-sum c = λ rows cols xs is.
    stays_passed xs c.args.snapshot (subst (IsSumOf rows cols xs) c.in-None.is is)

use Rattle.std.proofs.Common.{subst, sym}
use Rattle.std.specs.Prelude.{OnErr}
use Rattle.mm_sum.specs.Running.{IsSumOf, FitsBehind}
use Rattle.mm_sum.specs.declared.running_sum.RunningSum.{RunningSum}
use Rattle.mm_sum.proofs.SumLemmas.{stays_passed}
use Rattle.mm_sum.proofs.running_sum.RunningSum.add.Goals as goal

pub returns-in-Fits-clause-memory : goal.returns-in-Fits-clause-memory
returns-in-Fits-clause-memory c =
    subst (λ (sum : RunningSum). OnErr c.add_block.result (FitsBehind sum c.args.block.now)) (sym c.in-Fits.is)
    c.add_block.ensures.memory

pub returns-in-TooLarge-clause-ok : goal.returns-in-TooLarge-clause-ok
returns-in-TooLarge-clause-ok c rows cols cells is =
    stays_passed cells c.args.block.now (subst (IsSumOf rows cols cells) c.in-TooLarge.is is)

use Rattle.std.proofs.Common.{◌∙◌, ap}
use Rattle.hyper_matrix.specs.Matrix.{Matrix}
use Rattle.snap_roll.proofs.RollLemmas.{nothing_based}
use Rattle.snap_roll.proofs.rolling.empty_list.Goals as goal

pub invariant_of-result : goal.invariant_of-result
invariant_of-result c =
    nothing_based _ _ (ap (λ (m : Matrix). m.counts) (c.in_ok-one.ensures ∙ c.new-base.ensures)) c.new.ensures.items

use Rattle.std.proofs.Common.{◌∙◌, ap, sym, subst}
use Rattle.hyper_matrix.specs.Matrix.{Matrix}
use Rattle.batch_store.specs.Accepted.{Accepted, accepted}
use Rattle.batch_store.specs.Batches.{values}
use Rattle.batch_store.specs.Books.{AreAccepted, accepted_in}
use Rattle.snap_report.proofs.FoldLemmas.{base_of_all}
use Rattle.snap_roll.proofs.RollLemmas.{accepted_folded}
use Rattle.snap_roll.proofs.rolling.folded.Goals as goal

pub invariant_of-result : goal.invariant_of-result
invariant_of-result c =
    base_of_all c.args.setup.now (accepted_in c.args.list) _ _ c.requires.accepted
    (ap (λ (m : Matrix). m.counts) (c.in_ok-base.ensures ∙ c.in_ok-sum.ensures))
    c.in_ok-folded.ensures

pub returns-clause-accepted : goal.returns-clause-accepted
returns-clause-accepted c =
    let base = ap (λ (m : Matrix). m.counts) (c.in_ok-base.ensures ∙ c.in_ok-sum.ensures) in
    subst (λ (a : Accepted). AreAccepted c.args.setup.now a)
    (sym (λ i. accepted (base i) (c.in_ok-folded.ensures i) (values (c.new.ensures.items i))))
    (accepted_folded c.args.setup.now (accepted_in c.args.list) c.requires.accepted)

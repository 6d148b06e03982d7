use Rattle.std.proofs.Common.{◌∙◌}
use Rattle.batch_store.specs.Accepted.{unfolded, entries_in}
use Rattle.batch_store.specs.Batches.{values, entries_of}
use Rattle.plain_engine.specs.Loads.{first_refusal}
use Rattle.plain_engine.proofs.LoadLaws.{none_refused}
use Rattle.plain_engine.proofs.engine.PlainEngine.from_batches.Goals as goal

pub returns-clause-accepted : goal.returns-clause-accepted
returns-clause-accepted g c = λ accepted.
    let made = c.in_ok-engine.ensures in
    c.with_batches.ensures.accepted
    ((λ i. first_refusal (made.setup i) (entries_in (made.empty i)) (entries_of (values c.args.list.now)))
    ∙ none_refused c.args.setup (unfolded (values c.args.list.now)) accepted)

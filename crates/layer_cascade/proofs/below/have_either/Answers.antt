use Rattle.std.proofs.Common.{◌||◌, is_some, sym, ap, ◌∙◌}
use Rattle.std.specs.FinMap.{get}
use Rattle.hyper_matrix.specs.Counts.{Counts, Place}
use Rattle.layer_compaction.specs.Shared.{content, values, all_counts}
use Rattle.layer_cascade.proofs.RowEntryLemmas.{some_of_first, some_of_sum}
use Rattle.layer_cascade.proofs.below.have_either.Goals as goal

pub returns-then-runs_have : goal.returns-then-runs_have
returns-then-runs_have c =
    let q : Place = (c.args.row, c.args.col) in
    c.if-runs_have.true
    ∙ sym (some_of_first c.args.below.now.counts (content (all_counts (values c.args.before.now))) q
    (sym c.if-runs_have.true ∙ c.runs_have.ensures
    ∙ ap (λ (m : Counts). is_some (get m q)) (sym c.runs.ensures.sum)))

pub returns-else-runs_have : goal.returns-else-runs_have
returns-else-runs_have c =
    let q : Place = (c.args.row, c.args.col) in
    let before = content (all_counts (values c.args.before.now)) in
    c.runs_have-else-runs_have.ensures
    ∙ ap (λ b. b || is_some (get before q)) (sym c.if-runs_have.false ∙ c.runs_have.ensures
    ∙ ap (λ (m : Counts). is_some (get m q)) (sym c.runs.ensures.sum))
    ∙ sym (some_of_sum c.args.below.now.counts before q)

use Rattle.std.proofs.Common.{take, ap, ◌∙◌, arith}
use Rattle.std.proofs.lemmas.List.{length-map}
use Rattle.std.specs.Arc.{arc_value}
use Rattle.layer_compaction.specs.Shared.{values}
use Rattle.layer_compaction.proofs.CountedLemmas.{counts_none, counts_front}
use Rattle.layer_compaction.proofs.layer.Layer.settled.Goals as goal

pub with_runs-requires-clause-counts : goal.with_runs-requires-clause-counts
with_runs-requires-clause-counts c = counts_none (values c.in_ok-runs.runs.items)

pub with_runs-requires-2-clause-counts : goal.with_runs-requires-2-clause-counts
with_runs-requires-2-clause-counts c = counts_front c.self.inside.counted c.self.inside.places c.max-from.result
    (values c.in_ok-runs-2.runs.items) (values c.self.inside.runs.items)
    (c.in_ok-runs-2.ensures.before ∙ ap (λ l. take c.max-from.result (values l)) c.deref-3.ensures.value) (omega arith)
    (omega (arith, length-map c.self.inside.runs.items arc_value)) c.self.invariant.1

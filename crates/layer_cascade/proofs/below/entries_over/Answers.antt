use Rattle.std.proofs.Common.{◌+◌, take, sym, ap, ◌∙◌, arith}
use Rattle.std.specs.FinMap.{len}
use Rattle.std.proofs.lemmas.List.{take_all}
use Rattle.hyper_matrix.specs.Counts.{Counts, ewise_add}
use Rattle.hyper_matrix.proofs.CountLaws.{ewise_add-empty, ewise_add_comm}
use Rattle.layer_compaction.specs.Shared.{content, values, all_counts}
use Rattle.layer_compaction.proofs.LayerLemmas.{length-counts}
use Rattle.layer_cascade.proofs.BelowLemmas.{places_over, places_within}
use Rattle.layer_cascade.proofs.below.entries_over.Goals as goal

pub runs-init : goal.runs-init
runs-init c = c.entries-entries.ensures ∙ ap len (sym (ewise_add-empty c.args.below.now.counts))

more : goal.runs-preserved
more c = places_over c.runs-runs.result.now c.runs.i c.index-runs-i.result c.matrix.result.now (omega arith)
    c.index-runs-i.is (c.matrix.ensures ∙ c.deref.ensures) c.args.below.now.counts c.runs.entries
    c.new_over-entries.result c.runs.invariant c.new_over-entries.ensures

pub overflow_add-entries : goal.overflow_add-entries
overflow_add-entries c =
    let below = c.args.below.now.counts in
    let runs = all_counts (values c.runs-runs.result.now) in
    record {
      fits = omega (
        arith,
        c.requires,
        more c,
        places_within below runs (c.runs.i + 1),
        ap len (ewise_add_comm below c.args.layer.now.counts),
        ap (λ (m : Counts). len (ewise_add below m)) c.runs-runs.ensures.sum,
      );
    }

pub runs-preserved : goal.runs-preserved
runs-preserved c = more c

pub returns : goal.returns
returns c =
    let below = c.args.below.now.counts in
    let runs = all_counts (values c.runs-runs.result.now) in
    c.runs.invariant
    ∙ ap (λ (l : _). len (ewise_add below (content l)))
    (take_all c.runs.i runs (omega (arith, c.runs-test.false, length-counts c.runs-runs.result.now)))
    ∙ ap (λ (m : Counts). len (ewise_add below m)) (sym c.runs-runs.ensures.sum)
    ∙ ap len (ewise_add_comm below c.args.layer.now.counts)

use Rattle.std.proofs.Common.{◌+◌, take, sym, ap, subst, ◌∙◌, arith}
use Rattle.std.proofs.lemmas.List.{take_all}
use Rattle.hyper_matrix.specs.Counts.{Counts, ewise_add}
use Rattle.hyper_matrix.proofs.CountLaws.{ewise_add-empty, ewise_add_assoc, ewise_add_comm}
use Rattle.layer_compaction.specs.Shared.{content, values, all_counts}
use Rattle.layer_cascade.specs.Columns.{HasColumns}
use Rattle.layer_compaction.proofs.LayerLemmas.{sum_more, layer_dims, length-counts}
use Rattle.layer_compaction.proofs.RunLemmas.{counts-take}
use Rattle.layer_cascade.proofs.row_entries.columns_with_layer.Goals as goal

pub runs-init : goal.runs-init
runs-init c = subst (λ (m : Counts). HasColumns m c.args.layer.now.rows c.args.row c.args.found)
    (sym (ewise_add-empty (content (all_counts (values c.args.deeper.now))))) c.requires

pub columns_with_run-columns-requires : goal.columns_with_run-columns-requires
columns_with_run-columns-requires c =
    let runs = c.runs-runs.result.now in
    let deeper = content (all_counts (values c.args.deeper.now)) in
    let dims = layer_dims runs c.runs.i c.index-runs-i.result c.matrix.result.now (omega arith) c.index-runs-i.is
    (c.matrix.ensures ∙ c.deref.ensures) c.args.layer.now.rows c.args.layer.now.cols c.runs-runs.ensures.dims in
    subst (λ n. HasColumns (ewise_add deeper (content (all_counts (values (take c.runs.i runs))))) n c.args.row
    c.runs.columns) (sym dims.0)
    (subst (λ l. HasColumns (ewise_add deeper (content l)) c.args.layer.now.rows c.args.row c.runs.columns)
    (sym (counts-take c.runs.i runs)) c.runs.invariant)

pub runs-preserved : goal.runs-preserved
runs-preserved c =
    let runs = c.runs-runs.result.now in
    let deeper = content (all_counts (values c.args.deeper.now)) in
    let here = c.matrix.result.now.counts in
    let dims = layer_dims runs c.runs.i c.index-runs-i.result c.matrix.result.now (omega arith) c.index-runs-i.is
    (c.matrix.ensures ∙ c.deref.ensures) c.args.layer.now.rows c.args.layer.now.cols c.runs-runs.ensures.dims in
    let before = content (all_counts (values (take c.runs.i runs))) in
    subst (λ n. HasColumns (ewise_add deeper (content (take (c.runs.i + 1) (all_counts (values runs))))) n c.args.row
    c.columns_with_run-columns.result) dims.0
    (subst (λ (m : Counts). HasColumns m c.matrix.result.now.rows c.args.row c.columns_with_run-columns.result)
    (ewise_add_assoc deeper before here ∙ ap (ewise_add deeper)
    (ap (λ l. ewise_add (content l) here) (counts-take c.runs.i runs)
    ∙ sym (sum_more runs c.runs.i c.index-runs-i.result c.matrix.result.now (omega arith) c.index-runs-i.is
    (c.matrix.ensures ∙ c.deref.ensures)))) c.columns_with_run-columns.ensures)

pub returns : goal.returns
returns c =
    let runs = c.runs-runs.result.now in
    let deeper = content (all_counts (values c.args.deeper.now)) in
    subst (λ (m : Counts). HasColumns m c.args.layer.now.rows c.args.row c.runs.columns)
    (ap (λ l. ewise_add deeper (content l))
    (take_all c.runs.i (all_counts (values runs)) (omega (arith, length-counts runs)))
    ∙ ap (ewise_add deeper) (sym c.runs-runs.ensures.sum) ∙ ewise_add_comm deeper c.args.layer.now.counts)
    c.runs.invariant

use Rattle.std.proofs.Common.{[], refl, sym, ap, ◌∙◌}
use Rattle.std.specs.FinMap.{entries}
use Rattle.hyper_matrix.specs.Counts.{ewise_add}
use Rattle.hyper_matrix.proofs.BuiltOfLaws.{built_of-none}
use Rattle.hyper_matrix.proofs.PlaceOrderLaws.{sorted_rising}
use Rattle.layer_compaction.specs.Shared.{content, values, all_counts}
use Rattle.layer_compaction.specs.Runs.{count_new}
use Rattle.layer_compaction.proofs.CountedLemmas.{entries-rising}
use Rattle.layer_compaction.proofs.LayerLemmas.{empty-ewise_add}
use Rattle.layer_compaction.proofs.runs.new_together.Goals as goal

pub new_in_list-new-requires : goal.new_in_list-new-requires
new_in_list-new-requires c = record { order = sorted_rising c.in_ok-cells.cells.items c.in_ok-cells.ensures.rises }

pub returns : goal.returns
returns c =
    let rest = content (all_counts (values c.args.rest.now)) in
    let built = c.in_ok-cells.ensures.sum ∙ ap (λ m. ewise_add m rest) (sym (built_of-none [] refl))
    ∙ empty-ewise_add rest in
    c.new_in_list-new.ensures
    ∙ ap (count_new (content (all_counts (values c.args.before.now))))
    (sym (entries-rising c.in_ok-cells.cells.items c.in_ok-cells.ensures.rises) ∙ ap entries built)

use Rattle.std.proofs.Common.{◌++◌, T, map, sym, ap, subst, ◌∙◌}
use Rattle.std.specs.FinMap.{is_sorted, entries, entries_sorted}
use Rattle.hyper_matrix.specs.Cells.{entry_of}
use Rattle.hyper_matrix.specs.Counts.{place_cmp}
use Rattle.layer_compaction.specs.Shared.{content, values, all_counts}
use Rattle.layer_compaction.specs.Runs.{count_new}
use Rattle.layer_compaction.proofs.runs.new_by_walks.Goals as goal

pub new_in_list-new-requires : goal.new_in_list-new-requires
new_in_list-new-requires c =
    let listed = c.in_ok-push_cells.ensures.order
    ∙ ap (λ l. map entry_of l ++ entries c.args.m.now.counts) c.new-cells.ensures.items in
    record {
      order = subst (λ l. T (is_sorted place_cmp l)) (sym listed) (entries_sorted c.args.m.now.counts);
    }

pub returns : goal.returns
returns c =
    let listed = c.in_ok-push_cells.ensures.order
    ∙ ap (λ l. map entry_of l ++ entries c.args.m.now.counts) c.new-cells.ensures.items in
    c.new_in_list-new.ensures ∙ ap (count_new (content (all_counts (values c.args.before.now)))) listed

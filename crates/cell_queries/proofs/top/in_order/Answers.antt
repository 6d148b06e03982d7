use Rattle.std.proofs.Common.{map, ap, ◌∙◌}
use Rattle.std.specs.BinaryHeap.{heap_items}
use Rattle.cell_queries.specs.declared.top.Ranked.{Ranked}
use Rattle.cell_queries.proofs.TopLaws.{falls_behind, ok_weaker, top_told}
use Rattle.cell_queries.proofs.top.in_order.Goals as goal

pub returns : goal.returns
returns c = λ by most rows leads. ok_weaker c.rows_of.result _ _ (λ top is.
    top_told by most rows (heap_items c.args.heap) c.into_sorted_vec-ranked.result.items top.items leads
    c.into_sorted_vec-ranked.ensures.permutation
    (falls_behind c.into_sorted_vec-ranked.result.items (c.into_sorted_vec-ranked.ensures.sorted c.requires))
    (is ∙ ap (map (λ (r : Ranked). r.tally)) c.deref.ensures.value)) c.rows_of.ensures

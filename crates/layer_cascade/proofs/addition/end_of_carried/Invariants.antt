use Rattle.std.proofs.Common.{◌≡◌, ℕ, ◌<◌, take}
use Rattle.hyper_matrix.specs.Counts.{ewise_add}
use Rattle.hyper_matrix.specs.Matrix.{matrix}
use Rattle.layer_compaction.specs.Shared.{content, values, all_counts}
use Rattle.layer_cascade.specs.Cascade.{CanHold}
use Rattle.layer_cascade.proofs.addition.end_of_carried.Given as goal

abbrev pub invariant-places : goal.invariant-places
invariant-places l = record {
  here : l.sum ≡ matrix l.fn.m.rows l.fn.m.cols
      (ewise_add l.fn.m.counts (content (take l.place (all_counts (values l.layers)))));
  least : (i : ℕ) → i < l.place → CanHold (all_counts (values l.layers)) l.cuts l.fn.m.counts i → ⊥;
}

use Rattle.std.proofs.Common.{T, ℕ, List, sym, subst}
use Rattle.std.specs.FinMap.{is_sorted, entries_sorted}
use Rattle.hyper_matrix.specs.Counts.{Place, place_cmp}
use Rattle.matrix_tests.proofs.merges.ranges.left_of.Goals as goal

pub skip_to-requires : goal.skip_to-requires
skip_to-requires c = subst (λ (es : List (Place × ℕ)). T (is_sorted place_cmp es)) (sym c.iter-cells.ensures.order)
    (entries_sorted c.args.m.now.counts)

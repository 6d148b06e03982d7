use Rattle.std.proofs.Common.{◌+◌, ◌≤◌, ◌∷◌, sym, ◌∙◌, subst, arith}
use Rattle.std.specs.BinaryHeap.{heap_items}
use Rattle.std.specs.FinMap.{entries}
use Rattle.hyper_matrix.specs.Counts.{Place, total}
use Rattle.hyper_matrix.specs.Cells.{entry_of}
use Rattle.merged_cells.specs.Fronts.{fronts_of, fronts_sum, NoneBefore}
use Rattle.merged_cells.proofs.MergeLaws.{sum_taken, sum_more, count_within, none_left_to_take}
use Rattle.merged_cells.proofs.merged.pull_sum.Goals as goal

pub returns-in_default-clause-steps : goal.returns-in_default-clause-steps
returns-in_default-clause-steps c =
    let none = c.in_default.ensures in
    let all = none_left_to_take c.args.first.now (heap_items c.args.others.now) c.requires.kept none.0 in (
      all,
      (λ i. entries (fronts_sum (fronts_of ((none.1 ∙ sym none.0) i) (none.2 i)))) ∙ all,
    )

pub overflow_add-sum : goal.overflow_add-sum
overflow_add-sum c =
    let pulls = c.in-Some-pull_at.ensures in
    let all : c.places.sum.count + c.in-Some-pull_at.cell.count ≤
    total (fronts_sum (fronts_of c.args.first.now (heap_items c.args.others.now))) =
    count_within _ _ _ (sum_more c.places.sum c.in-Some-pull_at.cell _ _ _ c.places.invariant.sum pulls.0.sum pulls.1
    pulls.2) in
    omega (arith, c.requires.fits)

pub places-preserved : goal.places-preserved
places-preserved c =
    let pulls = c.in-Some-pull_at.ensures in
    record {
      kept = pulls.0.kept;
      sum = sum_more c.places.sum c.in-Some-pull_at.cell _ _ _ c.places.invariant.sum pulls.0.sum pulls.1 pulls.2;
      behind = subst (λ (p : Place). NoneBefore p (fronts_of c.pull_at.new.first (heap_items c.pull_at.new.others)))
          (λ i. (pulls.1 i, pulls.2 i)) pulls.0.behind;
    }

pub returns-clause-steps : goal.returns-clause-steps
returns-clause-steps c =
    let old = c.in_default-pull_at.ensures in
    sum_taken _ c.places.sum c.places.first (heap_items c.places.others) c.places.invariant.kept c.places.invariant.sum
    c.places.invariant.behind old.2
    ∙ (λ i. entry_of c.places.sum ∷ entries (fronts_sum (fronts_of (sym old.0 i) (sym old.1 i))))

use Rattle.std.proofs.Common.{◌≡◌, ℕ, ◌+◌, ◌^◌, cond, is_some, sym, ap, ◌∙◌, arith}
use Rattle.std.specs.FinMap.{get}
use Rattle.hyper_matrix.specs.Counts.{Place, ewise_add}
use Rattle.layer_compaction.specs.Shared.{content, values, all_counts}
use Rattle.layer_cascade.proofs.RowEntryLemmas.{with_none, with_all, with_next, alone_counted, none_of_both, none_wide}
use Rattle.layer_cascade.proofs.RowEntryLemmas.{columns_few, none_of_two, some_of_first, some_of_second, one_at_most}
use Rattle.layer_cascade.proofs.row_entries.columns_with_run.Goals as goal
use Rattle.layer_cascade.proofs.row_entries.columns_with_run.Goals.{then-not-runs_have+then-not-layers_have}
use Rattle.layer_cascade.proofs.row_entries.columns_with_run.Goals.{else-not-runs_have}
use Rattle.layer_cascade.proofs.row_entries.columns_with_run.Goals.{else-not-runs_have-via-else-not-runs_have}

pub returns-then-found-eq0 : goal.returns-then-found-eq0
returns-then-found-eq0 c =
    let others = ewise_add (content (all_counts (values c.args.deeper.now)))
    (content (all_counts (values c.args.before.now))) in
    let m = c.args.run.now.counts in
    let row = c.args.row in
    record {
      counted = c.row_total.ensures.entries
          ∙ sym (alone_counted others m row (sym c.requires.counted ∙ c.if-found-eq0.true));
      narrow = none_of_both others m row (2 ^ 60) c.requires.narrow
          (none_wide m c.args.run.now.rows c.args.run.now.cols row c.dims-cols.result.1 c.first_in_row-none.result
          c.first_in_row-none.ensures.value c.first_in_row-none.ensures.within
          (ap (λ (p : ℕ × ℕ). p.1) c.dims-cols.ensures.value) c.dims-cols.ensures.cols.1);
      outside = λ h. (c.row_total.ensures.outside h).0;
    }

pub columns-init : goal.columns-init
columns-init c =
    let others = ewise_add (content (all_counts (values c.args.deeper.now)))
    (content (all_counts (values c.args.before.now))) in
    record {
      counted = c.requires.counted ∙ sym (with_none others c.args.run.now.counts c.args.row);
      few = omega arith;
      narrow = omega arith;
      outside = c.requires.outside;
    }

pub overflow_add-columns : goal.overflow_add-columns
overflow_add-columns c =
    let others = ewise_add (content (all_counts (values c.args.deeper.now)))
    (content (all_counts (values c.args.before.now))) in
    record {
      fits = omega (
        arith,
        c.columns.invariant.few,
        c.columns.invariant.narrow,
        columns_few others c.args.run.now.rows c.args.row c.args.found c.requires,
      );
    }

pub columns-preserved : goal.columns-preserved
columns-preserved c =
    let deeper = content (all_counts (values c.args.deeper.now)) in
    let before = content (all_counts (values c.args.before.now)) in
    let q : Place = (c.args.row, c.in-Some.entry.col) in
    let have = is_some (get (ewise_add deeper before) q) in
    let step : c.if-not-runs_have.columns ≡ cond have 0 1 + c.columns.columns =
    elim c.if-not-runs_have.branch [
      | then-not-runs_have+then-not-layers_have w ↦ omega (
        arith,
        w.columns-is,
        ap {B = ℕ} (λ b. cond b 0 1)
            (none_of_two deeper before q w.if-not-layers_have.ensures w.if-not-runs_have.ensures),
      )
      | else-not-runs_have w ↦ omega (
        arith,
        w.columns-is,
        ap {B = ℕ} (λ b. cond b 0 1) (elim w.else-not-runs_have.branch [
          | goal.else-not-runs_have-via-then-not-runs_have+else-not-layers_have k ↦
              some_of_first deeper before q k.if-not-layers_have.ensures
          | else-not-runs_have-via-else-not-runs_have k ↦
              some_of_second deeper before q k.if-not-runs_have.ensures
        ]),
      )
    ] in
    let h = c.in-Some.ensures.value in
    record {
      counted = step ∙ ap (λ n. cond have 0 1 + n) c.columns.invariant.counted
          ∙ sym (with_next c.args.run.now.counts c.args.row c.columns.from c.in-Some.entry.col c.in-Some.entry.count
          h.behind h.first h.stands (ewise_add deeper before));
      few = omega (arith, step, one_at_most have, c.columns.invariant.few, h.behind);
      narrow = omega (arith, c.in-Some.ensures.within.1, c.dims-cols.ensures.cols.1);
      outside = λ out. absurd (omega (arith, out, c.in-Some.ensures.within.0));
    }

pub returns : goal.returns
returns c =
    let others = ewise_add (content (all_counts (values c.args.deeper.now)))
    (content (all_counts (values c.args.before.now))) in
    let m = c.args.run.now.counts in
    let row = c.args.row in
    record {
      counted = c.columns.invariant.counted ∙ with_all others m row c.columns.from c.in_default.ensures.value;
      narrow = none_of_both others m row (2 ^ 60) c.requires.narrow
          (λ col at. c.in_default.ensures.value col (omega (arith, c.columns.invariant.narrow, at)));
      outside = c.columns.invariant.outside;
    }

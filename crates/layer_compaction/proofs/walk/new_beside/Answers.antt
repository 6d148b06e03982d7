use Rattle.std.proofs.Common.{T, sym, ap, subst, ◌∙◌, arith}
use Rattle.std.specs.FinMap.{is_sorted, entries_sorted}
use Rattle.hyper_matrix.specs.Cells.{entry_of}
use Rattle.hyper_matrix.specs.Counts.{place_cmp}
use Rattle.layer_compaction.specs.Runs.{count_new}
use Rattle.layer_compaction.proofs.RunLemmas.{new_below, none_new, one_new}
use Rattle.layer_compaction.proofs.WalkLemmas.{Decides, decides-all, taken, behind}
use Rattle.layer_compaction.proofs.walk.new_beside.Goals as goal

pub cells-init : goal.cells-init
cells-init c =
    let before = c.args.before.now.counts in
    let items = c.into_iter-cell-iterator.ensures.into_iter_gives ∙ c.iter-cell-items.ensures.order in
    let left = sym c.iter-others.ensures.order ∙ taken c.next-head.result _ c.next-head.new.self
    c.next-head.ensures.steps in
    record {
      can = tt;
      finite = tt;
      rises = subst (λ l. T (is_sorted place_cmp l)) (sym items) (entries_sorted c.args.m.now.counts);
      others_rise = subst (λ l. T (is_sorted place_cmp l)) left (entries_sorted before);
      decides = subst (λ l. Decides before l c.into_iter-cell-iterator.result) left
          (decides-all before c.into_iter-cell-iterator.result);
      rest = omega (arith, ap (count_new before) items);
    }

pub overflow_add-new : goal.overflow_add-new
overflow_add-new c =
    let before = c.args.before.now.counts in
    let inv = c.cells.invariant in
    let next = behind before _ _ _ _ _ _ c.in-Some.ensures.steps inv.rises inv.others_rise inv.decides
    c.advanced-head.ensures (c.stands_at.ensures c.advanced-head.new.cells) in
    record {
      fits = omega (
        arith,
        inv.rest,
        ap (count_new before) c.in-Some.ensures.steps,
        one_new before (entry_of c.in-Some.cell) c.next.new.self (next.3 ∙ c.if-not-stands_at.true),
        new_below before c.args.m.now.counts,
        c.entries-bound.ensures,
      );
    }

pub cells-preserved-then-not-stands_at : goal.cells-preserved-then-not-stands_at
cells-preserved-then-not-stands_at c =
    let before = c.args.before.now.counts in
    let inv = c.cells.invariant in
    let next = behind before _ _ _ _ _ _ c.in-Some.ensures.steps inv.rises inv.others_rise inv.decides
    c.advanced-head.ensures (c.stands_at.ensures c.advanced-head.new.cells) in
    record {
      can = tt;
      finite = tt;
      rises = next.0;
      others_rise = next.1;
      decides = next.2;
      rest = omega (
        arith,
        inv.rest,
        ap (count_new before) c.in-Some.ensures.steps,
        one_new before (entry_of c.in-Some.cell) c.next.new.self (next.3 ∙ c.if-not-stands_at.true),
      );
    }

pub cells-preserved : goal.cells-preserved
cells-preserved c =
    let before = c.args.before.now.counts in
    let inv = c.cells.invariant in
    let next = behind before _ _ _ _ _ _ c.in-Some.ensures.steps inv.rises inv.others_rise inv.decides
    c.advanced-head.ensures (c.stands_at.ensures c.advanced-head.new.cells) in
    record {
      can = tt;
      finite = tt;
      rises = next.0;
      others_rise = next.1;
      decides = next.2;
      rest = omega (
        arith,
        inv.rest,
        ap (count_new before) c.in-Some.ensures.steps,
        none_new before (entry_of c.in-Some.cell) c.next.new.self (next.3 ∙ c.if-not-stands_at.false),
      );
    }

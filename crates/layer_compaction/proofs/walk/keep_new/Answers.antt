use Rattle.std.proofs.Common.{◌+◌, ◌<◌, T, length, map, get_or, sym, subst, refl, ◌∙◌, arith}
use Rattle.std.specs.FinMap.{is_sorted, entries_sorted}
use Rattle.cells.specs.declared.cell.Cell.{Cell}
use Rattle.hyper_matrix.specs.Cells.{entry_of}
use Rattle.hyper_matrix.specs.Counts.{place_cmp}
use Rattle.layer_compaction.proofs.WalkLemmas.{Decides, decides-all, taken, behind}
use Rattle.layer_compaction.proofs.WithoutLemmas.{KeptUpTo, kept_none, kept_same, kept_more, steps}
use Rattle.layer_compaction.proofs.walk.keep_new.Goals as goal
use Rattle.layer_compaction.proofs.walk.keep_new.Goals.{then-not-stands_at, else-not-stands_at}

abbrev none : Cell
none = record { row = 0; col = 0; count = 0 }

pub cells-init : goal.cells-init
cells-init c =
    let before = c.args.before.now.counts in
    let left = sym c.iter-others.ensures.order ∙ taken c.next-head.result _ c.next-head.new.self
    c.next-head.ensures.steps in
    record {
      until = kept_none before c.args.cells.now;
      rises = c.requires.order;
      others_rise = subst (λ l. T (is_sorted place_cmp l)) left (entries_sorted before);
      decides = subst (λ l. Decides before l (map entry_of c.args.cells.now)) left
          (decides-all before (map entry_of c.args.cells.now));
    }

pub cells-preserved : goal.cells-preserved
cells-preserved c =
    let before = c.args.before.now.counts in
    let all = c.args.cells.now in
    let inv = c.cells.invariant in
    let i = c.cells.i in
    let kept = c.cells.kept in
    let cell = get_or c.cells.cells i none in
    let inside : i < length c.cells.cells = omega (arith, c.cells-test.true, c.cells.auto.cells) in
    let one = steps before all c.cells.cells i kept cell none inside inv.until refl in
    let next = behind before _ _ _ _ _ _ one inv.rises inv.others_rise inv.decides c.advanced-head.ensures
    (c.stands_at.ensures c.advanced-head.new.cells) in
    record {
      until = elim c.if-not-stands_at.branch [
        | then-not-stands_at w ↦ subst (KeptUpTo before all c.if-not-stands_at.cells (i + 1)) (sym w.kept-is)
            (kept_more before all c.cells.cells i kept cell none inside inv.until refl c.if-not-stands_at.cells
            w.cells-is (next.3 ∙ w.if-not-stands_at.true))
        | else-not-stands_at w ↦ subst (KeptUpTo before all c.if-not-stands_at.cells (i + 1)) (sym w.kept-is)
            (subst (λ l. KeptUpTo before all l (i + 1) kept) (sym w.cells-is)
            (kept_same before all c.cells.cells i kept cell none inside inv.until refl
            (next.3 ∙ w.if-not-stands_at.false)))
      ];
      rises = next.0;
      others_rise = next.1;
      decides = next.2;
    }

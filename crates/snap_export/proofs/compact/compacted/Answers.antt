use Rattle.std.proofs.Common.{List, sym, ◌∙◌, subst, Contains}
use Rattle.cells.specs.declared.cell.Cell.{Cell}
use Rattle.snap_export.specs.Labels.{AreLabels, numbers_of}
use Rattle.snap_export.specs.declared.axis.Axis.{Axis}
use Rattle.std.specs.List.Sorted.{IsStrictlyIncreasing}
use Rattle.snap_export.proofs.LabelLemmas.{each_labelled}
use Rattle.snap_export.proofs.CompactLemmas.{relabelled_within, relabelled_back}
use Rattle.snap_export.proofs.compact.compacted.Goals as goal

pub relabel-requires-clause-each_row : goal.relabel-requires-clause-each_row
relabel-requires-clause-each_row c =
    each_labelled Axis.Rows c.deref.result.now c.deref_mut.result.now c.in_ok-rows.rows.items c.deref-3.result.now
    (c.deref_mut.ensures.value ∙ sym c.deref.ensures.value) c.deref-3.ensures.value c.in_ok-rows.ensures

pub relabel-requires-clause-each_col : goal.relabel-requires-clause-each_col
relabel-requires-clause-each_col c =
    each_labelled Axis.Cols c.deref-2.result.now c.deref_mut.result.now c.in_ok-cols.cols.items c.deref-4.result.now
    (c.deref_mut.ensures.value ∙ sym c.deref-2.ensures.value) c.deref-4.ensures.value c.in_ok-cols.ensures

pub returns-clause-rows : goal.returns-clause-rows
returns-clause-rows c =
    subst (λ (cells : List Cell). AreLabels (Contains (numbers_of Axis.Rows cells)) c.in_ok-rows.rows.items)
    c.deref.ensures.value c.in_ok-rows.ensures

pub returns-clause-cols : goal.returns-clause-cols
returns-clause-cols c =
    subst (λ (cells : List Cell). AreLabels (Contains (numbers_of Axis.Cols cells)) c.in_ok-cols.cols.items)
    c.deref-2.ensures.value c.in_ok-cols.ensures

pub relabel-requires-clause-rows : goal.relabel-requires-clause-rows
relabel-requires-clause-rows c = subst IsStrictlyIncreasing (sym c.deref-3.ensures.value) c.in_ok-rows.ensures.rise

pub relabel-requires-clause-cols : goal.relabel-requires-clause-cols
relabel-requires-clause-cols c = subst IsStrictlyIncreasing (sym c.deref-4.ensures.value) c.in_ok-cols.ensures.rise

pub returns-clause-within : goal.returns-clause-within
returns-clause-within c =
    relabelled_within c.in_ok-rows.rows.items c.in_ok-cols.cols.items c.deref-3.result.now c.deref-4.result.now
    c.args.cells.items c.deref_mut.result.now c.relabel.new.cells c.args.cells.len c.deref-3.ensures.value
    c.deref-4.ensures.value c.deref_mut.ensures.value c.deref_mut.ensures.len c.relabel.ensures.back
    c.relabel.ensures.within

pub returns-clause-back : goal.returns-clause-back
returns-clause-back c =
    relabelled_back c.in_ok-rows.rows.items c.in_ok-cols.cols.items c.deref-3.result.now c.deref-4.result.now
    c.args.cells.items c.deref_mut.result.now c.relabel.new.cells c.args.cells.len c.deref-3.ensures.value
    c.deref-4.ensures.value c.deref_mut.ensures.value c.deref_mut.ensures.len c.relabel.ensures.back

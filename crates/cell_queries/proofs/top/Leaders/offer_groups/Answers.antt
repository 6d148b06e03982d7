use Rattle.std.proofs.Common.{[], ◌++◌, List, ◌≡◌, ◌∙◌, OnOk, ap, sym, subst, append_assoc}
use Rattle.std.proofs.lemmas.List.{append-nil}
use Rattle.cell_queries.specs.declared.tally.RowTally.{RowTally}
use Rattle.cell_queries.specs.Groups.{grouped, IsFrom}
use Rattle.cell_queries.specs.Heaps.{AreLed}
use Rattle.cell_queries.specs.Tallies.{tallies}
use Rattle.cell_queries.proofs.GroupLaws.{from_skipped, grouped_skipped, groups_more, groups_end, no_group}
use Rattle.cell_queries.proofs.TallyLaws.{at_none, at_some}
use Rattle.cell_queries.proofs.top.Leaders.offer_groups.Goals as goal

pub cells-init : goal.cells-init
cells-init g c =
    let groups = c.args.groups.now in
    let es = g.S.CellSource.left c.args.source.now in
    record {
      done = [];
      led = λ by most rows led.
          subst (λ (ts : List RowTally). AreLed by most ts c.args.self.now) (sym (append-nil rows)) led;
      from = subst (IsFrom groups.rows.first) (sym c.skip_to_place.ensures)
          (from_skipped groups.rows.first es c.requires.order);
      whole = ap (λ xs. tallies (grouped groups xs)) c.skip_to_place.ensures ∙ ap tallies (grouped_skipped groups es);
    }

pub cells-preserved : goal.cells-preserved
cells-preserved g c =
    let old = c.cells.invariant in
    let more = c.in_ok-gather.ensures in
    record {
      done = old.done ++ more.done;
      led = λ by most rows led.
          subst (λ (ts : List RowTally). AreLed by most ts c.gather.new.self) (append_assoc rows old.done more.done)
          (more.led by most (rows ++ old.done) (old.led by most rows led));
      from = c.in-Some.ensures.from;
      whole = groups_more old.done more.done c.cells.current c.in-Some.cell c.in_ok-gather.field-0 _ _ _ old.whole
          c.in-Some.ensures.cell more.whole;
    }

pub returns-in-Some-current : goal.returns-in-Some-current
returns-in-Some-current g c = λ by most rows led.
    let old = c.cells.invariant in
    let none = at_none c.next_grouped.result _ _ c.in_default.is c.next_grouped.ensures.cell in
    subst (λ (ts : List RowTally). OnOk c.offer.result (AreLed by most ts c.offer.new.self))
    (groups_end old.done c.cells.current c.in-Some-current.group _ rows _ c.in-Some-current.is old.whole none)
    (c.offer.ensures by most (rows ++ old.done) (old.led by most rows led))

pub returns-in-None : goal.returns-in-None
returns-in-None g c = λ by most rows led.
    let old = c.cells.invariant in
    let none = at_none c.next_grouped.result _ _ c.in_default.is c.next_grouped.ensures.cell in
    subst (λ (ts : List RowTally). AreLed by most ts c.cells.self)
    (no_group old.done c.cells.current _ rows _ c.in-None.is old.whole none) (old.led by most rows led)

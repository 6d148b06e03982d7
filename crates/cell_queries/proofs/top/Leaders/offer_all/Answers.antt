use Rattle.std.proofs.Common.{[], ◌∷◌, ◌++◌, List, sym, subst, append_assoc}
use Rattle.std.proofs.lemmas.List.{append-nil}
use Rattle.cell_queries.specs.declared.tally.RowTally.{RowTally}
use Rattle.cell_queries.specs.Heaps.{AreLed}
use Rattle.cell_queries.proofs.TallyLaws.{at_none, at_some, rows_begun, rows_end, rows_more}
use Rattle.cell_queries.proofs.top.Leaders.offer_all.Goals as goal

pub rows-init : goal.rows-init
rows-init g c = record {
  done = [];
  led = λ by most rows led.
      subst (λ (ts : List RowTally). AreLed by most ts c.args.self.now) (sym (append-nil rows)) led;
  whole = rows_begun c.next_cell-ahead.result _ _ c.next_cell-ahead.ensures;
}

pub rows-preserved : goal.rows-preserved
rows-preserved g c =
    let old = c.rows.invariant in
    record {
      done = old.done ++ c.in-Some.row ∷ [];
      led = λ by most rows led.
          subst (λ (ts : List RowTally). AreLed by most ts c.offer.new.self)
          (append_assoc rows old.done (c.in-Some.row ∷ []))
          (c.in_ok-offer.ensures by most (rows ++ old.done) (old.led by most rows led));
      whole = rows_more old.done _ _ _ c.in-Some.row old.whole
          (at_some c.in_ok-row.field-0 c.in-Some.row _ _ (cc) c.in_ok-row.ensures.row);
    }

pub returns : goal.returns
returns g c = λ by most rows led.
    let old = c.rows.invariant in
    subst (λ (ts : List RowTally). AreLed by most (rows ++ ts) c.rows.self)
    (sym (rows_end old.done _ _ old.whole (at_none c.in_ok-row.field-0 _ _ c.in_default.is c.in_ok-row.ensures.row)))
    (old.led by most rows led)

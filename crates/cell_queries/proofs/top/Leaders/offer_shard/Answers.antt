use Rattle.std.proofs.Common.{[], ◌∷◌, ◌++◌, List, sym, subst, append_assoc, ◌∙◌}
use Rattle.std.proofs.lemmas.Bool.{false≢true}
use Rattle.std.proofs.lemmas.List.{append-nil}
use Rattle.cell_queries.specs.declared.tally.RowTally.{RowTally}
use Rattle.cell_queries.specs.Heaps.{AreLed}
use Rattle.cell_queries.specs.Shards.{LieInShard}
use Rattle.cell_queries.proofs.ApartLaws.{shard_has, shard_more}
use Rattle.cell_queries.proofs.TallyLaws.{at_none, at_some, rows_begun, rows_end, rows_more}
use Rattle.cell_queries.proofs.top.Leaders.offer_shard.Goals as goal

pub rows-init : goal.rows-init
rows-init g c = record {
  done = [];
  here = tt;
  led = λ by most rows led.
      subst (λ (ts : List RowTally). AreLed by most ts c.args.self.now) (sym (append-nil rows)) led;
  whole = rows_begun c.next_cell-ahead.result _ _ c.next_cell-ahead.ensures;
}

pub rows-preserved : goal.rows-preserved
rows-preserved g c =
    let old = c.rows.invariant in
    record {
      done = old.done ++ c.in-Some.row ∷ [];
      here = shard_more c.args.s c.args.k old.done c.in-Some.row old.here
          (sym c.shard_of.ensures ∙ c.if-shard_of-s.false);
      led = λ by most rows led.
          subst (λ (ts : List RowTally). AreLed by most ts c.offer.new.self)
          (append_assoc rows old.done (c.in-Some.row ∷ []))
          (c.in_ok-offer.ensures by most (rows ++ old.done) (old.led by most rows led));
      whole = rows_more old.done _ _ _ c.in-Some.row old.whole
          (at_some c.in_ok-row.field-0 c.in-Some.row _ _ (cc) c.in_ok-row.ensures.row);
    }

pub returns-then-shard_of-s-clause-tells : goal.returns-then-shard_of-s-clause-tells
returns-then-shard_of-s-clause-tells g c =
    let old = c.rows.invariant in
    let left = at_some c.in_ok-row.field-0 c.in-Some.row _ _ (cc) c.in_ok-row.ensures.row in (
      λ e. absurd (false≢true e),
      λ here.
          absurd (c.if-shard_of-s.true (c.shard_of.ensures ∙ shard_has c.args.s c.args.k old.done _ c.in-Some.row
          (subst (λ (ts : List RowTally). LieInShard c.args.s c.args.k (old.done ++ ts)) left
          (subst (LieInShard c.args.s c.args.k) (sym old.whole) here)))),
    )

pub returns-clause-leads : goal.returns-clause-leads
returns-clause-leads g c = λ by most rows led _.
    let old = c.rows.invariant in
    subst (λ (ts : List RowTally). AreLed by most (rows ++ ts) c.rows.self)
    (sym (rows_end old.done _ _ old.whole (at_none c.in_ok-row.field-0 _ _ c.in_default.is c.in_ok-row.ensures.row)))
    (old.led by most rows led)

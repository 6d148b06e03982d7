use Rattle.std.proofs.Common.{sym, ◌∙◌, arith}
use Rattle.hyper_matrix.specs.Cells.{entry_of}
use Rattle.cell_queries.proofs.RangeLaws.{ends_behind, ends_outside, skipped_behind, skipped_fewer}
use Rattle.cell_queries.proofs.range.next_in.Goals as goal

pub returns-then-cell-range-clause-cell : goal.returns-then-cell-range-clause-cell
returns-then-cell-range-clause-cell g c =
    ends_behind c.args.range.now _ _ _ (entry_of c.in-Some.cell) c.in-Some.ensures c.seek.invariant.order
    c.if-cell-range.true c.seek.invariant.same

pub returns-in_default-goes_on-clause-cell : goal.returns-in_default-goes_on-clause-cell
returns-in_default-goes_on-clause-cell g c =
    ends_outside c.args.range.now _ _ _ (entry_of c.in-Some.cell) c.in-Some.ensures c.seek.invariant.order
    c.in_default-goes_on.ensures (sym c.contains.ensures ∙ c.if-contains.false) c.seek.invariant.same

pub seek-smaller-then-walked-eq-WALK : goal.seek-smaller-then-walked-eq-WALK
seek-smaller-then-walked-eq-WALK g c =
    skipped_fewer c.in-Some-goes_on.place _ _ _ (entry_of c.in-Some.cell) c.in-Some.ensures c.skip_to_place.ensures

pub seek-preserved-then-walked-eq-WALK : goal.seek-preserved-then-walked-eq-WALK
seek-preserved-then-walked-eq-WALK g c =
    let h = skipped_behind c.args.range.now c.in-Some-goes_on.place _ _ _ _ (entry_of c.in-Some.cell) c.in-Some.ensures
    c.seek.invariant.order c.in-Some-goes_on.ensures (sym c.contains.ensures ∙ c.if-contains.false)
    c.seek.invariant.same c.skip_to_place.ensures in
    record { few = omega arith; order = h.0; same = h.1 }

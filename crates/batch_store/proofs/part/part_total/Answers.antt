use Rattle.std.proofs.Common.{◌∙◌, sym, ap, arith}
use Rattle.std.proofs.lemmas.Bool.{eq-eqb}
use Rattle.hyper_matrix.specs.Counts.{count_sum}
use Rattle.hyper_matrix.specs.Cells.{entry_of}
use Rattle.hyper_matrix.specs.Parts.{part_entries}
use Rattle.hyper_matrix.proofs.PartLaws.{total-part, part_sum-more}
use Rattle.batch_store.proofs.PartLaws.{part_of-le}
use Rattle.batch_store.proofs.part.part_total.Goals as goal

pub add-init : goal.add-init
add-init c = record {
  can = tt;
  finite = tt;
  rest = omega (
    arith,
    ap (λ es. count_sum (part_entries c.args.s c.args.k es)) (c.into_iter-cell-iterator.ensures.into_iter_gives
        ∙ c.iter-cell-items.ensures.order),
    total-part c.args.m.now.counts c.args.s c.args.k,
  );
}

pub overflow_add-total : goal.overflow_add-total
overflow_add-total c =
    let this = ap (λ es. count_sum (part_entries c.args.s c.args.k es)) c.in-Some.ensures.steps in
    let more = part_sum-more c.args.s c.args.k (entry_of c.in-Some.cell) c.next.new.self (eq-eqb _ _ (sym c.shard_of.ensures ∙ c.if-shard_of-s.true))
    in
    record {
      fits = omega (
        arith,
        this,
        more,
        c.add.invariant.rest,
        part_of-le c.args.s c.args.k c.args.m.now.counts,
        c.total-bound.ensures.fits,
      );
    }

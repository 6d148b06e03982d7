use Rattle.std.proofs.Common.{◌≡◌, ◌<◌, ◌^◌, ◌++◌, List, true, false, refl, subst}
use Rattle.std.proofs.lemmas.Result.{err_from_is_err_and}
use Rattle.cells.specs.declared.cell.Cell.{Cell}
use Rattle.hyper_matrix.specs.Cells.{cell_total}
use Rattle.mm_sum.specs.Running.{IsSumOf}
use Rattle.mm_sum.specs.declared.running_sum.RunningSum.TheVariants.{TooLarge}
use Rattle.mm_sum.proofs.ReadLemmas.{begun_unsummed, begun_summed}
use Rattle.mm_sum.proofs.TextsLemmas.{passing, passing_total, told_behind_any, next_begun, next_ended}
use Rattle.mm_sum.proofs.reading.sum_next.Goals as goal

pub returns-in_err-own-clause-err : goal.returns-in_err-own-clause-err
returns-in_err-own-clause-err g c =
    let p = err_from_is_err_and c.from_residual.result c.from_residual.ensures.1 in
    rw (p.1, p.2) (λ earlier is. c.in_err-own.ensures.err earlier)

pub sum_rest-requires-clause-summed : goal.sum_rest-requires-clause-summed
sum_rest-requires-clause-summed g c = (
  passing,
  c.args.r.now,
  c.in_ok-own.own,
  (begun_summed g.R.Source.read_gives g.R.Source.at_end g.R.Source.failure_count passing c.args.r.now
      c.first_block.new.r c.first_block.new.reader c.in_ok-own.own c.first_block.new.block.items TooLarge c.in_ok-own.more
      c.in_ok-own.ensures.ok (passing_total c.first_block.new.block.items)),
)

pub returns-in_err-_passed-clause-err : goal.returns-in_err-_passed-clause-err
returns-in_err-_passed-clause-err g c =
    let p = err_from_is_err_and c.from_residual-in_err-_passed.result c.from_residual-in_err-_passed.ensures.1 in
    rw (p.1, p.2) (λ earlier is. told_behind_any g.R.Source.read_gives g.R.Source.at_end g.R.Source.failure_count
    earlier c.args.r.now c.sum_rest.new.r c.in_err-_passed.field-0.0
    (c.in_err-_passed.ensures.err passing c.args.r.now c.in_ok-own.own
    (begun_summed g.R.Source.read_gives g.R.Source.at_end g.R.Source.failure_count passing c.args.r.now
    c.first_block.new.r c.first_block.new.reader c.in_ok-own.own c.first_block.new.block.items TooLarge c.in_ok-own.more
    c.in_ok-own.ensures.ok (passing_total c.first_block.new.block.items))))

pub returns-then-not-is_same-clause-ok : goal.returns-then-not-is_same-clause-ok
returns-then-not-is_same-clause-ok g c earlier is =
    let held = c.in_ok-_passed.ensures.ok passing c.args.r.now c.in_ok-own.own
    (begun_summed g.R.Source.read_gives g.R.Source.at_end g.R.Source.failure_count passing c.args.r.now
    c.first_block.new.r c.first_block.new.reader c.in_ok-own.own c.first_block.new.block.items TooLarge c.in_ok-own.more
    c.in_ok-own.ensures.ok (passing_total c.first_block.new.block.items)) in (
      c.in_ok-own.own.rows,
      c.in_ok-own.own.cols,
      held.cells,
      held.reads_text,
      λ same. let t : false ≡ true = c.if-not-is_same.ensures.1 same in absurd (cc),
    )

pub returns-in_err-added-clause-err : goal.returns-in_err-added-clause-err
returns-in_err-added-clause-err g c =
    let p = err_from_is_err_and c.from_residual-in_err-added.result c.from_residual-in_err-added.ensures.1 in
    rw (p.1, p.2) (λ earlier is. begun_unsummed g.R.Source.read_gives g.R.Source.at_end g.R.Source.failure_count
    earlier c.args.r.now c.first_block.new.r c.first_block.new.reader c.in_ok-own.own c.first_block.new.block.items
    c.in_ok-own.more c.in_ok-own.ensures.ok
    (subst (λ (b : List Cell). cell_total (earlier ++ b) < 2 ^ 64) c.deref.ensures.value
    (c.in_err-added.ensures.memory c.args.size.rows c.args.size.cols earlier is)))

pub sum_rest-requires-2-clause-summed : goal.sum_rest-requires-2-clause-summed
sum_rest-requires-2-clause-summed g c =
    let before = c.requires.summed in (
      before.0,
      c.args.r.now,
      c.in_ok-own.own,
      (next_begun g.R.Source.read_gives g.R.Source.at_end g.R.Source.failure_count before.0 c.args.r.now
          c.first_block.new.r c.first_block.new.reader c.in_ok-own.own c.args.size c.first_block.new.block.items
          c.in_ok-added.added c.in_ok-own.more (c.if-not-is_same.ensures.0 refl) c.in_ok-own.ensures.ok
          (subst (λ (b : List Cell). IsSumOf c.args.size.rows c.args.size.cols (before.0 ++ b) c.in_ok-added.added)
          c.deref.ensures.value (c.in_ok-added.ensures.ok c.args.size.rows c.args.size.cols before.0 before.1))),
    )

pub returns-in_err-all-clause-err : goal.returns-in_err-all-clause-err
returns-in_err-all-clause-err g c =
    let p = err_from_is_err_and c.from_residual-in_err-all.result c.from_residual-in_err-all.ensures.1 in
    rw (p.1, p.2) (λ earlier is. c.in_err-all.ensures.err earlier c.args.r.now c.in_ok-own.own
    (next_begun g.R.Source.read_gives g.R.Source.at_end g.R.Source.failure_count earlier c.args.r.now
    c.first_block.new.r c.first_block.new.reader c.in_ok-own.own c.args.size c.first_block.new.block.items
    c.in_ok-added.added c.in_ok-own.more (c.if-not-is_same.ensures.0 refl) c.in_ok-own.ensures.ok
    (subst (λ (b : List Cell). IsSumOf c.args.size.rows c.args.size.cols (earlier ++ b) c.in_ok-added.added)
    c.deref.ensures.value (c.in_ok-added.ensures.ok c.args.size.rows c.args.size.cols earlier is))))

pub returns-clause-ok : goal.returns-clause-ok
returns-clause-ok g c earlier is =
    next_ended g.R.Source.read_gives g.R.Source.at_end g.R.Source.failure_count earlier c.args.r.now
    c.sum_rest-2.new.r c.in_ok-own.own c.args.size c.in_ok-all.all (c.if-not-is_same.ensures.0 refl)
    (c.in_ok-all.ensures.ok earlier c.args.r.now c.in_ok-own.own
    (next_begun g.R.Source.read_gives g.R.Source.at_end g.R.Source.failure_count earlier c.args.r.now
    c.first_block.new.r c.first_block.new.reader c.in_ok-own.own c.args.size c.first_block.new.block.items
    c.in_ok-added.added c.in_ok-own.more (c.if-not-is_same.ensures.0 refl) c.in_ok-own.ensures.ok
    (subst (λ (b : List Cell). IsSumOf c.args.size.rows c.args.size.cols (earlier ++ b) c.in_ok-added.added)
    c.deref.ensures.value (c.in_ok-added.ensures.ok c.args.size.rows c.args.size.cols earlier is))))

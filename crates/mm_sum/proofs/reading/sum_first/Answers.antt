use Rattle.std.proofs.Common.{◌<◌, ◌^◌, List, [], subst}
use Rattle.std.proofs.lemmas.Result.{err_from_is_err_and}
use Rattle.cells.specs.declared.cell.Cell.{Cell}
use Rattle.hyper_matrix.specs.Cells.{cell_total}
use Rattle.mm_sum.specs.Running.{IsSumOf}
use Rattle.mm_sum.proofs.ReadLemmas.{begun_unsummed, begun_summed}
use Rattle.mm_sum.proofs.reading.sum_first.Goals as goal

pub returns-in_err-size-clause-err : goal.returns-in_err-size-clause-err
returns-in_err-size-clause-err g c =
    let p = err_from_is_err_and c.from_residual.result c.from_residual.ensures.1 in
    rw (p.1, p.2) (c.in_err-size.ensures.err [])

pub returns-in_err-sum-clause-err : goal.returns-in_err-sum-clause-err
returns-in_err-sum-clause-err g c =
    let p = err_from_is_err_and c.from_residual-in_err-sum.result c.from_residual-in_err-sum.ensures.1 in
    rw (p.1, p.2) (begun_unsummed g.R.Source.read_gives g.R.Source.at_end g.R.Source.failure_count [] c.args.r.now
    c.first_block.new.r c.first_block.new.reader c.in_ok-size.size c.first_block.new.block.items c.in_ok-size.more
    c.in_ok-size.ensures.ok
    (subst (λ (b : List Cell). cell_total b < 2 ^ 64) c.deref.ensures.value c.in_err-sum.ensures.memory))

pub sum_rest-requires-clause-summed : goal.sum_rest-requires-clause-summed
sum_rest-requires-clause-summed g c = (
  [],
  c.args.r.now,
  c.in_ok-size.size,
  (begun_summed g.R.Source.read_gives g.R.Source.at_end g.R.Source.failure_count [] c.args.r.now
      c.first_block.new.r c.first_block.new.reader c.in_ok-size.size c.first_block.new.block.items c.in_ok-sum.sum
      c.in_ok-size.more c.in_ok-size.ensures.ok
      (subst (λ (b : List Cell). IsSumOf c.in_ok-size.size.rows c.in_ok-size.size.cols b c.in_ok-sum.sum)
      c.deref.ensures.value c.in_ok-sum.ensures.ok)),
)

pub returns-in_err-all-clause-err : goal.returns-in_err-all-clause-err
returns-in_err-all-clause-err g c =
    let p = err_from_is_err_and c.from_residual-in_err-all.result c.from_residual-in_err-all.ensures.1 in
    rw (p.1, p.2) (c.in_err-all.ensures.err [] c.args.r.now c.in_ok-size.size
    (begun_summed g.R.Source.read_gives g.R.Source.at_end g.R.Source.failure_count [] c.args.r.now
    c.first_block.new.r c.first_block.new.reader c.in_ok-size.size c.first_block.new.block.items c.in_ok-sum.sum
    c.in_ok-size.more c.in_ok-size.ensures.ok
    (subst (λ (b : List Cell). IsSumOf c.in_ok-size.size.rows c.in_ok-size.size.cols b c.in_ok-sum.sum)
    c.deref.ensures.value c.in_ok-sum.ensures.ok)))

pub returns-clause-ok : goal.returns-clause-ok
returns-clause-ok g c = c.in_ok-all.ensures.ok [] c.args.r.now c.in_ok-size.size
    (begun_summed g.R.Source.read_gives g.R.Source.at_end g.R.Source.failure_count [] c.args.r.now
    c.first_block.new.r c.first_block.new.reader c.in_ok-size.size c.first_block.new.block.items c.in_ok-sum.sum
    c.in_ok-size.more c.in_ok-size.ensures.ok
    (subst (λ (b : List Cell). IsSumOf c.in_ok-size.size.rows c.in_ok-size.size.cols b c.in_ok-sum.sum)
    c.deref.ensures.value c.in_ok-sum.ensures.ok))

use Rattle.std.proofs.Common.{◌≡◌, ◌+◌, ◌<◌, ◌≤◌, ◌^◌, ◌++◌, ◌∙◌, true, Bool, List, length, sym, subst, arith}
use Rattle.std.proofs.Common.{vec_capacity}
use Rattle.std.proofs.lemmas.Result.{err_from_is_err_and}
use Rattle.cells.specs.declared.cell.Cell.{Cell}
use Rattle.mm_text.specs.Readings.{ReadsBlock}
use Rattle.hyper_matrix.specs.Cells.{cell_total}
use Rattle.mm_sum.specs.Running.{CanTake, IsSumOf}
use Rattle.mm_sum.proofs.CountLemmas.{given_few}
use Rattle.mm_sum.proofs.ReadLemmas.{takes, block_unsummed, summing, summed, stopped}
use Rattle.mm_sum.proofs.reading.sum_blocks.Goals as goal

pub returns-in_err-more-clause-err : goal.returns-in_err-more-clause-err
returns-in_err-more-clause-err g c =
    let p = err_from_is_err_and c.from_residual.result c.from_residual.ensures.1 in
    let reserved : 4096 ≤ vec_capacity c.clear.new.self =
    omega (arith, c.clear.ensures.capacity, c.text.invariant.reserved) in
    rw (p.1, p.2) (λ earlier s size old.
    let now = (c.text.invariant.summing earlier s size old).0 in
    stopped g.R.Source.read_gives g.R.Source.at_end g.R.Source.failure_count s c.text.r c.read_block.new.r c.text.reader
    now.cells c.clear.new.self.items c.read_block.new.block.items c.in_err-more.field-0.0
    now.hands_out c.in_err-more.ensures.err c.in_err-more.ensures.failures (c.in_err-more.ensures.reserved reserved))

pub add-requires : goal.add-requires
add-requires g c =
    let first = c.requires.summing in
    let now = (c.text.invariant.summing first.0 first.1 first.2 first.3).0 in
    subst (CanTake c.text.sum) (sym c.deref.ensures.value)
    (takes g.R.Source.read_gives g.R.Source.at_end g.R.Source.failure_count first.1 c.text.r c.read_block.new.r
    c.text.reader c.read_block.new.self now.cells c.clear.new.self.items c.read_block.new.block.items
    now.hands_out c.clear.ensures.items c.in_ok-more.ensures.no_failure first.0 first.2 c.text.sum c.in_ok-more.more now.sum_is
    c.in_ok-more.ensures.ok (c.in_ok-more.ensures.size first.2 now.size_is))

pub returns-in_err-sum-clause-err : goal.returns-in_err-sum-clause-err
returns-in_err-sum-clause-err g c =
    let p = err_from_is_err_and c.from_residual-in_err-sum.result c.from_residual-in_err-sum.ensures.1 in
    rw (p.1, p.2) (λ earlier s size old.
    let now = (c.text.invariant.summing earlier s size old).0 in
    block_unsummed g.R.Source.read_gives g.R.Source.at_end g.R.Source.failure_count s c.text.r c.read_block.new.r
    c.text.reader c.read_block.new.self now.cells c.clear.new.self.items c.read_block.new.block.items
    now.hands_out c.clear.ensures.items c.in_ok-more.ensures.no_failure earlier c.in_ok-more.more c.in_ok-more.ensures.ok
    (subst (λ (b : List Cell). cell_total (earlier ++ now.cells ++ b) < 2 ^ 64) c.deref.ensures.value
    (c.in_err-sum.ensures.memory size.rows size.cols (earlier ++ now.cells) now.sum_is)))

pub returns-then-not-more-clause-ok : goal.returns-then-not-more-clause-ok
returns-then-not-more-clause-ok g c earlier s size old =
    let now = (c.text.invariant.summing earlier s size old).0 in
    summed g.R.Source.read_gives g.R.Source.at_end g.R.Source.failure_count s c.text.r c.read_block.new.r c.text.reader
    c.read_block.new.self now.cells c.clear.new.self.items c.read_block.new.block.items
    now.hands_out c.clear.ensures.items c.in_ok-more.ensures.no_failure earlier size c.in_ok-sum.sum
    (subst (λ (more : Bool). ReadsBlock g.R.Source.read_gives g.R.Source.at_end c.text.r c.read_block.new.r
    c.text.reader c.read_block.new.self c.clear.new.self.items c.read_block.new.block.items more) c.if-not-more.true
    c.in_ok-more.ensures.ok)
    (c.in_ok-more.ensures.size size now.size_is)
    (subst (λ (b : List Cell). IsSumOf size.rows size.cols (earlier ++ now.cells ++ b) c.in_ok-sum.sum) c.deref.ensures.value
    (c.in_ok-sum.ensures.ok size.rows size.cols (earlier ++ now.cells) now.sum_is))

pub text-preserved : goal.text-preserved
text-preserved g c =
    let more : c.in_ok-more.more ≡ true = c.if-not-more.false in
    let full : 4096 ≤ length c.read_block.new.block.items + 1 = c.in_ok-more.ensures.full more in
    record {
      failures = c.in_ok-more.ensures.no_failure ∙ c.text.invariant.failures;
      reserved = omega (arith, c.clear.ensures.capacity, c.text.invariant.reserved, c.in_ok-more.ensures.grows);
      summing = λ earlier s size old.
          let before = c.text.invariant.summing earlier s size old in
          let now = before.0 in
          let next = summing g.R.Source.read_gives g.R.Source.at_end g.R.Source.failure_count s c.text.r
          c.read_block.new.r c.text.reader c.read_block.new.self now.cells c.clear.new.self.items
          c.read_block.new.block.items
          now.hands_out c.clear.ensures.items c.in_ok-more.ensures.no_failure earlier size c.in_ok-sum.sum
          (subst (λ (m : Bool). ReadsBlock g.R.Source.read_gives g.R.Source.at_end c.text.r c.read_block.new.r
          c.text.reader c.read_block.new.self c.clear.new.self.items c.read_block.new.block.items m) more
          c.in_ok-more.ensures.ok)
          (c.in_ok-more.ensures.size size now.size_is)
          (subst (λ (b : List Cell). IsSumOf size.rows size.cols (earlier ++ now.cells ++ b) c.in_ok-sum.sum) c.deref.ensures.value
          (c.in_ok-sum.ensures.ok size.rows size.cols (earlier ++ now.cells) now.sum_is)) in
          (next.0, omega (arith, before.1, full, next.1));
    }

pub unreachable-requires : goal.unreachable-requires
unreachable-requires g c =
    let first = c.requires.summing in
    let last = c.text.invariant.summing first.0 first.1 first.2 first.3 in
    omega (arith, last.1, given_few last.0.hands_out.answers last.0.cells c.text.reader last.0.hands_out.has_read)

use Rattle.std.proofs.Common.{◌≡◌, ◌-◌, ◌+◌, suc, sym, subst, ap, arith, ◌∙◌, List}
use Rattle.std.proofs.Math.Nat.{sub-zero}
use Rattle.std.proofs.lemmas.Result.{err_from_is_err_and}
use Rattle.batch_store.specs.Batches.{Submission, values}
use Rattle.snap_file.specs.Outcomes.{IsOfBytes, HasJudged}
use Rattle.snap_file.specs.declared.fault.SnapFault.TheVariants.{BadBatch}
use Rattle.log_batches.specs.Tables.{counted_batches, more_batches}
use Rattle.log_batches.proofs.TableLemmas.{one_next, none_next, behind_more}
use Rattle.log_batches.proofs.list.read_list.Goals as goal

pub next_u64_in-requires-clause-judged : goal.next_u64_in-requires-clause-judged
next_u64_in-requires-clause-judged g c = (λ e. absurd cc, λ e. absurd cc)

pub returns-in_err-count-clause-err : goal.returns-in_err-count-clause-err
unfolding counted_batches
returns-in_err-count-clause-err g c =
    let p = err_from_is_err_and c.from_residual.result c.from_residual.ensures.1 in
    rw (p.1, p.2) (λ s m k b h. c.in_err-count.ensures.err s m _ h)

pub batches-init : goal.batches-init
unfolding counted_batches
batches-init g c = record {
  failures = c.in_ok-count.ensures.no_failure;
  read = λ s m k h.
      let none = ap values c.new-batches.ensures.items in
      rw (sub-zero c.in_ok-count.count)
      (subst (λ (l : List Submission). HasJudged {S = g.row.R.Denot} g.R.Source.read_gives g.R.Source.failure_count
      m s c.next_u64_in.new.r c.next_u64_in.new.self (more_batches c.args.head.now c.in_ok-count.count l k)) (sym none)
      (c.in_ok-count.ensures.ok s m _ h));
}

pub returns-in_err-read_one-clause-err : goal.returns-in_err-read_one-clause-err
returns-in_err-read_one-clause-err g c =
    let p = err_from_is_err_and c.from_residual-in_err-read_one.result c.from_residual-in_err-read_one.ensures.1 in
    rw (p.1, p.2) (λ s m k b h.
    let count = c.in_ok-count.count in
    let next : count - c.batches.i ≡ suc (count - (c.batches.i + 1)) = omega (arith, c.batches-test.true) in
    c.in_err-read_one.ensures.err s m _ (λ q. behind_more c.args.head.now (count - (c.batches.i + 1)) q k b)
    (one_next {S = g.row.R.Denot} g.R.Source.read_gives g.R.Source.failure_count m s c.batches.r c.batches.reader
    c.args.head.now k (count - c.batches.i) (count - (c.batches.i + 1)) (values c.batches.batches.items) next
    (c.batches.invariant.read s m k h)))

pub batches-preserved : goal.batches-preserved
batches-preserved g c =
    let old = c.batches.invariant in
    let count = c.in_ok-count.count in
    let next : count - c.batches.i ≡ suc (count - (c.batches.i + 1)) = omega (arith, c.batches-test.true) in
    record {
      failures = c.in_ok-read_one.ensures.no_failure ∙ old.failures;
      read = λ s m k h. c.in_ok-read_one.ensures.ok s m _
          (one_next {S = g.row.R.Denot} g.R.Source.read_gives g.R.Source.failure_count m s c.batches.r c.batches.reader
          c.args.head.now k (count - c.batches.i) (count - (c.batches.i + 1)) (values c.batches.batches.items) next
          (old.read s m k h));
    }

pub returns-clause-ok : goal.returns-clause-ok
returns-clause-ok g c = λ s m k h.
    let none : c.in_ok-count.count - c.batches.i ≡ 0 = omega (arith, c.batches-test.false) in
    none_next {S = g.row.R.Denot} g.R.Source.read_gives g.R.Source.failure_count m s c.batches.r c.batches.reader
    c.args.head.now k (c.in_ok-count.count - c.batches.i) (values c.batches.batches.items) none
    (c.batches.invariant.read s m k h)

pub returns-clause-no_failure : goal.returns-clause-no_failure
returns-clause-no_failure g c = c.batches.invariant.failures

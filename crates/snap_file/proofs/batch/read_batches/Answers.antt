use Rattle.std.proofs.Common.{◌≡◌, ℕ, suc, ◌+◌, ◌-◌, refl, sym, ap, subst, arith, ◌∙◌}
use Rattle.std.proofs.Math.Nat.{sub-zero}
use Rattle.std.proofs.lemmas.Result.{err_from_is_err_and}
use Rattle.snap_file.specs.declared.fault.SnapFault.TheVariants.{TotalDiffers}
use Rattle.batch_store.specs.Accepted.{accepted}
use Rattle.batch_store.specs.Batches.{values, entries_of}
use Rattle.snap_file.specs.Table.{Reading, Progress, batches_behind, ending, check_in}
use Rattle.snap_file.specs.declared.head.Head.{Head}
use Rattle.snap_file.specs.declared.origin.Origin.{Origin}
use Rattle.snap_file.specs.Outcomes.{IsOfBytes, HasJudged}
use Rattle.snap_file.specs.Lists.{progress_in, progress_of}
use Rattle.snap_file.proofs.StopLemmas.{stops_refused, read_passed}
use Rattle.snap_file.proofs.ListLemmas.{batch_next, batch_last, pairs_none}
use Rattle.snap_file.proofs.BehindLemmas.{behind_batches, behind_ending, behind_check_in}
use Rattle.snap_file.proofs.batch.read_batches.Goals as goal

judged : IsOfBytes TotalDiffers
judged = (λ e. absurd cc, λ e. absurd cc)

pub batches-init : goal.batches-init
batches-init g c =
    let none = ap values c.new.ensures.items in
    let past = c.args.front.now.past in
    let begun : ◌≡◌ {A = Progress} (progress_in past) (record {
      state = accepted past.base.counts past.folded.items (values c.new.result.items);
      counted = c.new-3.result.counted;
    }) = (λ i. record {
      state = accepted past.base.counts past.folded.items (sym none i);
      counted = sym c.new-3.ensures i;
    }) in
    record {
      counted = omega (arith, c.requires.counted, c.new-3.ensures);
      pairs = pairs_none c.new-2.result (entries_of (values c.new.result.items)) c.new-2.ensures.empty
          (ap entries_of none);
      failures = refl;
      read = λ s m h. rw (sub-zero c.args.front.now.head.batches) (subst (λ (p : Progress).
          HasJudged {S = g.row.R.Denot} g.R.Source.read_gives g.R.Source.failure_count m s c.args.r.now
          c.args.reader.now (batches_behind c.args.front.now.head c.args.front.now.head.batches p
          (ending c.args.front.now.head c.args.front.now.origin))) begun h);
    }

-- what follows the next batch, and its checksum behind that
abbrev rest_behind : Head → Origin → ℕ → Progress → Reading
rest_behind h o rest p = batches_behind h rest p (ending h o)

pub returns-in_err-read_batch-clause-err : goal.returns-in_err-read_batch-clause-err
returns-in_err-read_batch-clause-err g c =
    let p = err_from_is_err_and c.from_residual.result c.from_residual.ensures.1 in rw (p.1, p.2) (λ s m h.
    let head = c.args.front.now.head in
    let rest = head.batches - (c.batches._i + 1) in
    let left : head.batches - c.batches._i ≡ suc rest = omega (arith, c.batches-test.true) in
    c.in_err-read_batch.ensures.err s m (λ q. check_in head.version (λ _. rest_behind head c.args.front.now.origin rest q))
    (λ q. behind_check_in head.version (λ _. rest_behind head c.args.front.now.origin rest q)
    (behind_batches head rest q (ending head c.args.front.now.origin) (λ y. behind_ending head c.args.front.now.origin y)))
    (batch_next {S = g.row.R.Denot} g.R.Source.read_gives g.R.Source.failure_count m s c.batches.r c.batches.reader
    head (ending head c.args.front.now.origin) (head.batches - c.batches._i) rest (progress_of c.args.front.now.past c.batches.list) left
    (c.batches.invariant.read s m h)))

pub returns-in_err-next_check_in-clause-err : goal.returns-in_err-next_check_in-clause-err
returns-in_err-next_check_in-clause-err g c =
    let p = err_from_is_err_and c.from_residual-in_err-next_check_in.result
    c.from_residual-in_err-next_check_in.ensures.1 in rw (p.1, p.2) (λ s m h.
    let head = c.args.front.now.head in
    let rest = head.batches - (c.batches._i + 1) in
    let left : head.batches - c.batches._i ≡ suc rest = omega (arith, c.batches-test.true) in
    c.in_err-next_check_in.ensures.err s m
    (λ _. rest_behind head c.args.front.now.origin rest (progress_of c.args.front.now.past c.read_batch.new.list))
    (c.in_ok-read_batch.ensures.ok s m (λ q. check_in head.version (λ _. rest_behind head c.args.front.now.origin rest q))
    (batch_next {S = g.row.R.Denot} g.R.Source.read_gives g.R.Source.failure_count m s c.batches.r c.batches.reader
    head (ending head c.args.front.now.origin) (head.batches - c.batches._i) rest (progress_of c.args.front.now.past c.batches.list) left
    (c.batches.invariant.read s m h))))

pub next_check_in-requires : goal.next_check_in-requires
next_check_in-requires g c = omega (
  arith,
  c.requires.failures,
  c.in_ok-read_batch.ensures.no_failure,
  c.batches.invariant.failures,
)

pub batches-preserved : goal.batches-preserved
batches-preserved g c = record {
  counted = c.in_ok-read_batch.ensures.counted;
  pairs = c.in_ok-read_batch.ensures.pairs;
  failures = c.in_ok-next_check_in.ensures.no_failure ∙ c.in_ok-read_batch.ensures.no_failure ∙
      c.batches.invariant.failures;
  read = λ s m h.
      let head = c.args.front.now.head in
      let rest = head.batches - (c.batches._i + 1) in
      let left : head.batches - c.batches._i ≡ suc rest = omega (arith, c.batches-test.true) in
      c.in_ok-next_check_in.ensures.ok s m
      (λ _. rest_behind head c.args.front.now.origin rest (progress_of c.args.front.now.past c.read_batch.new.list))
      (c.in_ok-read_batch.ensures.ok s m (λ q. check_in head.version (λ _. rest_behind head c.args.front.now.origin rest q))
      (batch_next {S = g.row.R.Denot} g.R.Source.read_gives g.R.Source.failure_count m s c.batches.r c.batches.reader
      head (ending head c.args.front.now.origin) (head.batches - c.batches._i) rest (progress_of c.args.front.now.past c.batches.list) left
      (c.batches.invariant.read s m h)));
}

pub returns-in_err-refuse-clause-err : goal.returns-in_err-refuse-clause-err
returns-in_err-refuse-clause-err g c =
    let p = err_from_is_err_and c.from_residual-in_err-refuse.result c.from_residual-in_err-refuse.ensures.1 in
    let x = c.in_err-refuse.ensures.err in
    rw (p.1, p.2, x.0) (λ s m h.
    let none : c.args.front.now.head.batches - c.batches._i ≡ 0 = omega (arith, c.batches-test.false) in
    stops_refused {S = g.row.R.Denot} g.R.Source.read_gives g.R.Source.failure_count
    (g.R.Source.at_end c.batches.r) m s c.batches.r c.batches.reader _ TotalDiffers _
    (batch_last {S = g.row.R.Denot} g.R.Source.read_gives g.R.Source.failure_count m s c.batches.r c.batches.reader
    c.args.front.now.head (ending c.args.front.now.head c.args.front.now.origin) (c.args.front.now.head.batches - c.batches._i)
    (progress_of c.args.front.now.past c.batches.list) none (c.batches.invariant.read s m h)) x.1 judged)

pub returns-clause-ok : goal.returns-clause-ok
returns-clause-ok g c = λ s m h.
    let none : c.args.front.now.head.batches - c.batches._i ≡ 0 = omega (arith, c.batches-test.false) in
    read_passed {S = g.row.R.Denot} g.R.Source.read_gives g.R.Source.failure_count m s c.batches.r c.batches.reader _
    TotalDiffers _ (batch_last {S = g.row.R.Denot} g.R.Source.read_gives g.R.Source.failure_count m s c.batches.r
    c.batches.reader c.args.front.now.head (ending c.args.front.now.head c.args.front.now.origin) (c.args.front.now.head.batches - c.batches._i)
    (progress_of c.args.front.now.past c.batches.list) none (c.batches.invariant.read s m h)) c.in_ok-refuse.ensures.ok

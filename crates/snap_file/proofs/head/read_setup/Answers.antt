use Rattle.std.proofs.Common.{◌∙◌, sym, subst, arith}
use Rattle.std.proofs.lemmas.Result.{err_from_is_err_and}
use Rattle.batch_store.specs.Setups.{Setting}
use Rattle.snap_file.specs.Outcomes.{HasJudged, IsOfBytes}
use Rattle.snap_file.specs.declared.fault.SnapFault.TheVariants.{BadHead}
use Rattle.snap_file.proofs.head.read_setup.Goals as goal

judged : IsOfBytes BadHead
judged = (λ e. absurd cc, λ e. absurd cc)

-- no call has failed before the next one
pub next_u64_in-requires-clause-judged : goal.next_u64_in-requires-clause-judged
next_u64_in-requires-clause-judged g c = judged

pub next_u64_in-requires-2-clause-failures : goal.next_u64_in-requires-2-clause-failures
next_u64_in-requires-2-clause-failures g c =
    omega (arith, c.requires.failures, c.in_ok-rows.ensures.no_failure)

pub next_u64_in-requires-2-clause-judged : goal.next_u64_in-requires-2-clause-judged
next_u64_in-requires-2-clause-judged g c = judged

pub next_u8_in-requires-clause-failures : goal.next_u8_in-requires-clause-failures
next_u8_in-requires-clause-failures g c =
    omega (arith, c.requires.failures, c.in_ok-rows.ensures.no_failure, c.in_ok-cols.ensures.no_failure)

pub next_u8_in-requires-clause-judged : goal.next_u8_in-requires-clause-judged
next_u8_in-requires-clause-judged g c = judged

pub read_cuts-requires-clause-failures : goal.read_cuts-requires-clause-failures
read_cuts-requires-clause-failures g c =
    omega (
      arith,
      c.requires.failures,
      c.in_ok-rows.ensures.no_failure,
      c.in_ok-cols.ensures.no_failure,
      c.in_ok-cut_count.ensures.no_failure,
    )

pub next_u8_in-requires-2-clause-failures : goal.next_u8_in-requires-2-clause-failures
next_u8_in-requires-2-clause-failures g c =
    omega (
      arith,
      c.requires.failures,
      c.in_ok-rows.ensures.no_failure,
      c.in_ok-cols.ensures.no_failure,
      c.in_ok-cut_count.ensures.no_failure,
      c.in_ok-cuts.ensures.no_failure,
    )

pub next_u8_in-requires-2-clause-judged : goal.next_u8_in-requires-2-clause-judged
next_u8_in-requires-2-clause-judged g c = judged

pub next_u64_in-requires-3-clause-failures : goal.next_u64_in-requires-3-clause-failures
next_u64_in-requires-3-clause-failures g c =
    omega (
      arith,
      c.requires.failures,
      c.in_ok-rows.ensures.no_failure,
      c.in_ok-cols.ensures.no_failure,
      c.in_ok-cut_count.ensures.no_failure,
      c.in_ok-cuts.ensures.no_failure,
      c.in_ok-shards.ensures.no_failure,
    )

pub next_u64_in-requires-3-clause-judged : goal.next_u64_in-requires-3-clause-judged
next_u64_in-requires-3-clause-judged g c = judged

pub next_u64_in-requires-4-clause-failures : goal.next_u64_in-requires-4-clause-failures
next_u64_in-requires-4-clause-failures g c =
    omega (
      arith,
      c.requires.failures,
      c.in_ok-rows.ensures.no_failure,
      c.in_ok-cols.ensures.no_failure,
      c.in_ok-cut_count.ensures.no_failure,
      c.in_ok-cuts.ensures.no_failure,
      c.in_ok-shards.ensures.no_failure,
      c.in_ok-limit.ensures.no_failure,
    )

pub next_u64_in-requires-4-clause-judged : goal.next_u64_in-requires-4-clause-judged
next_u64_in-requires-4-clause-judged g c = judged

pub returns-in_err-rows-clause-err : goal.returns-in_err-rows-clause-err
returns-in_err-rows-clause-err g c =
    let p = err_from_is_err_and c.from_residual.result c.from_residual.ensures.1 in
    rw (p.1, p.2) (λ s m k h.
    c.in_err-rows.ensures.err s m _ h)

pub returns-in_err-cols-clause-err : goal.returns-in_err-cols-clause-err
returns-in_err-cols-clause-err g c =
    let p = err_from_is_err_and c.from_residual-in_err-cols.result c.from_residual-in_err-cols.ensures.1 in
    rw (p.1, p.2) (λ s m k h.
    c.in_err-cols.ensures.err s m _ (c.in_ok-rows.ensures.ok s m _ h))

pub returns-in_err-cut_count-clause-err : goal.returns-in_err-cut_count-clause-err
returns-in_err-cut_count-clause-err g c =
    let p = err_from_is_err_and c.from_residual-in_err-cut_count.result c.from_residual-in_err-cut_count.ensures.1 in
    rw (p.1, p.2) (λ s m k h.
    c.in_err-cut_count.ensures.err s m _ (c.in_ok-cols.ensures.ok s m _ (c.in_ok-rows.ensures.ok s m _ h)))

pub returns-in_err-cuts-clause-err : goal.returns-in_err-cuts-clause-err
returns-in_err-cuts-clause-err g c =
    let p = err_from_is_err_and c.from_residual-in_err-cuts.result c.from_residual-in_err-cuts.ensures.1 in
    rw (p.1, p.2) (λ s m k h.
    c.in_err-cuts.ensures.err s m _ (c.in_ok-cut_count.ensures.ok s m _ (c.in_ok-cols.ensures.ok s m _
    (c.in_ok-rows.ensures.ok s m _ h))))

pub returns-in_err-shards-clause-err : goal.returns-in_err-shards-clause-err
returns-in_err-shards-clause-err g c =
    let p = err_from_is_err_and c.from_residual-in_err-shards.result c.from_residual-in_err-shards.ensures.1 in
    rw (p.1, p.2) (λ s m k h.
    c.in_err-shards.ensures.err s m _ (c.in_ok-cuts.ensures.ok s m _ (c.in_ok-cut_count.ensures.ok s m _
    (c.in_ok-cols.ensures.ok s m _ (c.in_ok-rows.ensures.ok s m _ h)))))

pub returns-in_err-limit-clause-err : goal.returns-in_err-limit-clause-err
returns-in_err-limit-clause-err g c =
    let p = err_from_is_err_and c.from_residual-in_err-limit.result c.from_residual-in_err-limit.ensures.1 in
    rw (p.1, p.2) (λ s m k h.
    c.in_err-limit.ensures.err s m _ (c.in_ok-shards.ensures.ok s m _ (c.in_ok-cuts.ensures.ok s m _
    (c.in_ok-cut_count.ensures.ok s m _ (c.in_ok-cols.ensures.ok s m _ (c.in_ok-rows.ensures.ok s m _ h))))))

pub returns-in_err-max_batches-clause-err : goal.returns-in_err-max_batches-clause-err
returns-in_err-max_batches-clause-err g c =
    let p = err_from_is_err_and c.from_residual-in_err-max_batches.result c.from_residual-in_err-max_batches.ensures.1
    in
    rw (p.1, p.2) (λ s m k h.
    c.in_err-max_batches.ensures.err s m _ (c.in_ok-limit.ensures.ok s m _ (c.in_ok-shards.ensures.ok s m _
    (c.in_ok-cuts.ensures.ok s m _ (c.in_ok-cut_count.ensures.ok s m _ (c.in_ok-cols.ensures.ok s m _
    (c.in_ok-rows.ensures.ok s m _ h)))))))

pub returns-clause-ok : goal.returns-clause-ok
returns-clause-ok g c = λ s m k h.
    subst (λ (x : Setting). HasJudged {S = g.row.R.Denot} g.R.Source.read_gives g.R.Source.failure_count m s
    c.next_u64_in-4.new.r c.next_u64_in-4.new.self (k x)) (sym c.setup_of.ensures)
    (c.in_ok-max_batches.ensures.ok s m _ (c.in_ok-limit.ensures.ok s m _ (c.in_ok-shards.ensures.ok s m _
    (c.in_ok-cuts.ensures.ok s m _ (c.in_ok-cut_count.ensures.ok s m _ (c.in_ok-cols.ensures.ok s m _
    (c.in_ok-rows.ensures.ok s m _ h)))))))

pub returns-clause-no_failure : goal.returns-clause-no_failure
returns-clause-no_failure g c =
    c.in_ok-max_batches.ensures.no_failure ∙ c.in_ok-limit.ensures.no_failure ∙ c.in_ok-shards.ensures.no_failure
    ∙ c.in_ok-cuts.ensures.no_failure ∙ c.in_ok-cut_count.ensures.no_failure ∙ c.in_ok-cols.ensures.no_failure
    ∙ c.in_ok-rows.ensures.no_failure

pub setup_of-requires-clause-limit : goal.setup_of-requires-clause-limit
setup_of-requires-clause-limit g c = c.in_ok-limit.ensures.bounds.0

pub setup_of-requires-clause-batches : goal.setup_of-requires-clause-batches
setup_of-requires-clause-batches g c =
    let bounds = c.in_ok-max_batches.ensures.bounds in (bounds.0, omega (arith, bounds.1, c.requires.most))

pub setup_of-requires-clause-shards : goal.setup_of-requires-clause-shards
setup_of-requires-clause-shards g c = c.in_ok-shards.ensures.bounds

pub setup_of-requires-clause-few : goal.setup_of-requires-clause-few
setup_of-requires-clause-few g c = c.in_ok-cut_count.ensures.bounds.1

pub setup_of-requires-clause-cuts : goal.setup_of-requires-clause-cuts
setup_of-requires-clause-cuts g c = c.in_ok-cuts.ensures.cuts

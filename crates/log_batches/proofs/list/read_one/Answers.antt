use Rattle.std.proofs.Common.{List, [], ◌∷◌, ◌++◌, sym, ap, subst, ◌∙◌, arith}
use Rattle.std.proofs.lemmas.Result.{err_from_is_err_and}
use Rattle.hyper_matrix.specs.Matrix.{Matrix}
use Rattle.batch_store.specs.Batches.{Submission, submission, values}
use Rattle.snap_file.specs.Outcomes.{HasJudged}
use Rattle.snap_file.proofs.StopLemmas.{stops_memory}
use Rattle.snap_file.proofs.BehindLemmas.{behind_pair}
use Rattle.log_batches.specs.Tables.{one_batch}
use Rattle.log_batches.proofs.list.read_one.Goals as goal

pub returns-in_err-client-clause-err : goal.returns-in_err-client-clause-err
unfolding one_batch
returns-in_err-client-clause-err g c =
    let p = err_from_is_err_and c.from_residual.result c.from_residual.ensures.1 in
    rw (p.1, p.2) (λ s m k b h. c.in_err-client.ensures.err s m _ h)

pub returns-in_err-count-clause-err : goal.returns-in_err-count-clause-err
unfolding one_batch
returns-in_err-count-clause-err g c =
    let p = err_from_is_err_and c.from_residual-in_err-count.result c.from_residual-in_err-count.ensures.1 in
    rw (p.1, p.2) (λ s m k b h. c.in_err-count.ensures.err s m _ (c.in_ok-client.ensures.ok s m _ h))

pub returns-in_err-matrix-clause-err : goal.returns-in_err-matrix-clause-err
unfolding one_batch
returns-in_err-matrix-clause-err g c =
    let p = err_from_is_err_and c.from_residual-in_err-matrix.result c.from_residual-in_err-matrix.ensures.1 in
    rw (p.1, p.2) (λ s m k b h.
    c.in_err-matrix.ensures.err s m _ (λ t. b _) (c.in_ok-count.ensures.ok s m _ (c.in_ok-client.ensures.ok s m _ h)))

pub returns-in_err-push_batch-clause-err : goal.returns-in_err-push_batch-clause-err
unfolding one_batch
returns-in_err-push_batch-clause-err g c =
    let p = err_from_is_err_and c.from_residual-in_err-push_batch.result c.from_residual-in_err-push_batch.ensures.1 in
    rw (p.1, p.2, c.in_err-push_batch.ensures.err) (λ s m k b h.
    stops_memory {S = g.row.R.Denot} g.R.Source.read_gives g.R.Source.failure_count
    (g.R.Source.at_end c.read_entries.new.r) m s c.read_entries.new.r c.read_entries.new.reader _
    (c.in_ok-matrix.ensures.ok s m _ (c.in_ok-count.ensures.ok s m _ (c.in_ok-client.ensures.ok s m _ h))).3 (b _))

pub returns-clause-ok : goal.returns-clause-ok
unfolding one_batch
returns-clause-ok g c = λ s m k h.
    let x = c.in_ok-matrix.ensures.ok s m _ (c.in_ok-count.ensures.ok s m _ (c.in_ok-client.ensures.ok s m _ h)) in
    let old = values c.args.batches.now.items in
    let is = ap (λ (y : Matrix). old ++ submission c.in_ok-client.client c.in_ok-client.number y ∷ []) (sym x.1)
    ∙ sym c.in_ok-push_batch.ensures.ok in
    subst (λ (l : List Submission). HasJudged {S = g.row.R.Denot} g.R.Source.read_gives g.R.Source.failure_count m s
    c.read_entries.new.r c.read_entries.new.reader (k l)) is x.3

pub next_u64-requires : goal.next_u64-requires
next_u64-requires g c = omega (arith, c.requires, c.in_ok-client.ensures.no_failure)

pub read_entries-requires-clause-failures : goal.read_entries-requires-clause-failures
read_entries-requires-clause-failures g c =
    omega (arith, c.requires, c.in_ok-client.ensures.no_failure, c.in_ok-count.ensures.no_failure)

pub returns-clause-no_failure : goal.returns-clause-no_failure
returns-clause-no_failure g c =
    c.in_ok-matrix.ensures.no_failure ∙ c.in_ok-count.ensures.no_failure ∙ c.in_ok-client.ensures.no_failure

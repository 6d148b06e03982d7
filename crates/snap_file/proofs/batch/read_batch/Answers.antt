use Rattle.std.proofs.Common.{List, [], ◌∷◌, refl, sym, ap, subst, ◌∙◌, arith}
use Rattle.std.proofs.lemmas.List.{map-append}
use Rattle.std.proofs.lemmas.Result.{err_from_is_err_and}
use Rattle.batch_store.specs.Batches.{Submission, submission, values, entry_of, entries_of}
use Rattle.batch_store.specs.declared.verdict.Entry.{Entry}
use Rattle.snap_file.specs.Lists.{HasPairs}
use Rattle.snap_file.specs.Table.{Progress, batch}
use Rattle.snap_file.specs.Outcomes.{IsOfBytes, HasJudged}
use Rattle.snap_file.specs.declared.fault.SnapFault.TheVariants.{RepeatedNumber}
use Rattle.snap_file.proofs.StopLemmas.{stops_refused, stops_memory, read_passed}
use Rattle.snap_file.proofs.ListLemmas.{progress_is}
use Rattle.snap_file.proofs.BehindLemmas.{behind_pair}
use Rattle.snap_file.proofs.batch.read_batch.Goals as goal

judged : IsOfBytes RepeatedNumber
judged = (λ e. absurd cc, λ e. absurd cc)

pub returns-in_err-client-clause-err : goal.returns-in_err-client-clause-err
unfolding batch
returns-in_err-client-clause-err g c =
    let p = err_from_is_err_and c.from_residual.result c.from_residual.ensures.1 in
    rw (p.1, p.2) (λ s m k b h. c.in_err-client.ensures.err s m _ h)

pub returns-in_err-repeated-clause-err : goal.returns-in_err-repeated-clause-err
unfolding batch
returns-in_err-repeated-clause-err g c =
    let p = err_from_is_err_and c.from_residual-in_err-repeated.result c.from_residual-in_err-repeated.ensures.1 in
    rw (p.1, p.2, c.in_err-repeated.ensures.err.0) (λ s m k b h.
    stops_memory {S = g.row.R.Denot} g.R.Source.read_gives g.R.Source.failure_count
    (g.R.Source.at_end c.next_pair.new.r) m s c.next_pair.new.r c.next_pair.new.self _
    (read_passed {S = g.row.R.Denot} g.R.Source.read_gives g.R.Source.failure_count m s c.next_pair.new.r
    c.next_pair.new.self _ RepeatedNumber _ (c.in_ok-client.ensures.ok s m _ h)
    (c.in_err-repeated.ensures.err.1 (entries_of (values c.args.list.now.batches.items)) c.requires.pairs))
    (behind_pair c.args.front.now.head c.args.front.now.head.total _ _ (λ t. b _)))

pub returns-in_err-refuse-clause-err : goal.returns-in_err-refuse-clause-err
unfolding batch
returns-in_err-refuse-clause-err g c =
    let p = err_from_is_err_and c.from_residual-in_err-refuse.result c.from_residual-in_err-refuse.ensures.1 in
    rw (p.1, p.2, c.in_err-refuse.ensures.err.0) (λ s m k b h.
    stops_refused {S = g.row.R.Denot} g.R.Source.read_gives g.R.Source.failure_count
    (g.R.Source.at_end c.next_pair.new.r) m s c.next_pair.new.r c.next_pair.new.self _ RepeatedNumber _
    (c.in_ok-client.ensures.ok s m _ h)
    (sym (c.in_ok-repeated.ensures.told (entries_of (values c.args.list.now.batches.items)) c.requires.pairs) ∙
    c.in_err-refuse.ensures.err.1) judged)

pub returns-in_err-count-clause-err : goal.returns-in_err-count-clause-err
unfolding batch
returns-in_err-count-clause-err g c =
    let p = err_from_is_err_and c.from_residual-in_err-count.result c.from_residual-in_err-count.ensures.1 in
    rw (p.1, p.2) (λ s m k b h.
    c.in_err-count.ensures.err s m _
    (read_passed {S = g.row.R.Denot} g.R.Source.read_gives g.R.Source.failure_count m s c.next_pair.new.r
    c.next_pair.new.self _ RepeatedNumber _ (c.in_ok-client.ensures.ok s m _ h)
    (sym (c.in_ok-repeated.ensures.told (entries_of (values c.args.list.now.batches.items)) c.requires.pairs) ∙
    c.in_ok-refuse.ensures.ok)))

pub returns-in_err-matrix-clause-err : goal.returns-in_err-matrix-clause-err
unfolding batch
returns-in_err-matrix-clause-err g c =
    let p = err_from_is_err_and c.from_residual-in_err-matrix.result c.from_residual-in_err-matrix.ensures.1 in
    rw (p.1, p.2) (λ s m k b h.
    c.in_err-matrix.ensures.err s m _ (λ t. b _) (c.in_ok-count.ensures.ok s m _
    (read_passed {S = g.row.R.Denot} g.R.Source.read_gives g.R.Source.failure_count m s c.next_pair.new.r
    c.next_pair.new.self _ RepeatedNumber _ (c.in_ok-client.ensures.ok s m _ h)
    (sym (c.in_ok-repeated.ensures.told (entries_of (values c.args.list.now.batches.items)) c.requires.pairs) ∙
    c.in_ok-refuse.ensures.ok))))

pub returns-in_err-push_batch-clause-err : goal.returns-in_err-push_batch-clause-err
unfolding batch
returns-in_err-push_batch-clause-err g c =
    let p = err_from_is_err_and c.from_residual-in_err-push_batch.result c.from_residual-in_err-push_batch.ensures.1 in
    rw (p.1, p.2, c.in_err-push_batch.ensures.err) (λ s m k b h.
    stops_memory {S = g.row.R.Denot} g.R.Source.read_gives g.R.Source.failure_count
    (g.R.Source.at_end c.read_entries.new.r) m s c.read_entries.new.r c.read_entries.new.reader _
    (c.in_ok-matrix.ensures.ok s m _ (c.in_ok-count.ensures.ok s m _
    (read_passed {S = g.row.R.Denot} g.R.Source.read_gives g.R.Source.failure_count m s c.next_pair.new.r
    c.next_pair.new.self _ RepeatedNumber _ (c.in_ok-client.ensures.ok s m _ h)
    (sym (c.in_ok-repeated.ensures.told (entries_of (values c.args.list.now.batches.items)) c.requires.pairs) ∙
    c.in_ok-refuse.ensures.ok)))).3 (b _))

pub returns-clause-ok : goal.returns-clause-ok
unfolding batch
returns-clause-ok g c = λ s m k h.
    let x = c.in_ok-matrix.ensures.ok s m _ (c.in_ok-count.ensures.ok s m _
    (read_passed {S = g.row.R.Denot} g.R.Source.read_gives g.R.Source.failure_count m s c.next_pair.new.r
    c.next_pair.new.self _ RepeatedNumber _ (c.in_ok-client.ensures.ok s m _ h)
    (sym (c.in_ok-repeated.ensures.told (entries_of (values c.args.list.now.batches.items)) c.requires.pairs) ∙
    c.in_ok-refuse.ensures.ok))) in
    let is = progress_is c.args.front.now.head c.args.front.now.past.base.counts c.args.front.now.past.folded.items
    (values c.args.list.now.batches.items) c.args.list.now.tally.counted c.in_ok-client.client c.in_ok-client.number x.0
    c.in_ok-matrix.matrix
    (values c.push_batch.new.batches.items) c.read_entries.new.tally.counted x.1 x.2 c.in_ok-push_batch.ensures.ok in
    subst (λ (q : Progress). HasJudged {S = g.row.R.Denot} g.R.Source.read_gives g.R.Source.failure_count m s
    c.read_entries.new.r c.read_entries.new.reader (k q)) is x.3

pub next_u64-requires : goal.next_u64-requires
next_u64-requires g c = omega (arith, c.requires.failures, c.in_ok-client.ensures.no_failure)

pub read_entries-requires-clause-failures : goal.read_entries-requires-clause-failures
read_entries-requires-clause-failures g c =
    omega (
      arith,
      c.requires.failures,
      c.in_ok-client.ensures.no_failure,
      c.in_ok-count.ensures.no_failure,
    )

pub returns-clause-no_failure : goal.returns-clause-no_failure
returns-clause-no_failure g c =
    c.in_ok-matrix.ensures.no_failure ∙ c.in_ok-count.ensures.no_failure ∙ c.in_ok-client.ensures.no_failure

pub returns-clause-pairs : goal.returns-clause-pairs
returns-clause-pairs g c =
    let more = submission c.in_ok-client.client c.in_ok-client.number c.in_ok-matrix.matrix in
    let old = values c.args.list.now.batches.items in
    subst (λ (es : List Entry). HasPairs c.note_batch.new.pairs es)
    (sym (ap (λ (l : List Submission). entries_of l) c.in_ok-push_batch.ensures.ok
    ∙ map-append entry_of old (more ∷ [])))
    (c.in_ok-repeated.ensures.noted c.in_ok-refuse.ensures.ok (entries_of old) (entry_of more) c.requires.pairs refl
    refl)

pub returns-clause-counted : goal.returns-clause-counted
returns-clause-counted g c = c.in_ok-matrix.ensures.counted

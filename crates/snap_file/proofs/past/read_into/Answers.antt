use Rattle.std.proofs.lemmas.Result.{err_from_is_err_and}
use Rattle.snap_file.specs.Outcomes.{IsOfBytes}
use Rattle.snap_file.specs.declared.fault.SnapFault.TheVariants.{BadHead}
use Rattle.snap_file.proofs.PastLemmas.{folded_begins}
use Rattle.snap_file.proofs.BehindLemmas.{behind_base}
use Rattle.snap_file.proofs.past.read_into.Goals as goal

judged : IsOfBytes BadHead
judged = (λ e. absurd cc, λ e. absurd cc)

pub next_u64_in-requires-clause-judged : goal.next_u64_in-requires-clause-judged
next_u64_in-requires-clause-judged g c = judged

pub returns-in_err-count-clause-err : goal.returns-in_err-count-clause-err
returns-in_err-count-clause-err g c =
    let p = err_from_is_err_and c.from_residual.result c.from_residual.ensures.1 in
    rw (p.1, p.2) (λ s m k b h.
    c.in_err-count.ensures.err s m _ (folded_begins {S = g.row.R.Denot} g.R.Source.read_gives g.R.Source.failure_count m
    s c.args.r.now
    c.args.reader.now c.args.head.now k _ c.requires.nothing h c.max_batches.result c.max_batches.ensures.value))

pub returns-in_err-read_folded-clause-err : goal.returns-in_err-read_folded-clause-err
returns-in_err-read_folded-clause-err g c =
    let p = err_from_is_err_and c.from_residual-in_err-read_folded.result c.from_residual-in_err-read_folded.ensures.1
    in
    rw (p.1, p.2) (λ s m k b h.
    c.in_err-read_folded.ensures.err s m _ (λ q. behind_base c.args.head.now q k b)
    (c.in_ok-count.ensures.ok s m _ (folded_begins {S = g.row.R.Denot} g.R.Source.read_gives g.R.Source.failure_count m
    s c.args.r.now
    c.args.reader.now c.args.head.now k _ c.requires.nothing h c.max_batches.result c.max_batches.ensures.value)))

pub returns-in_err-past-clause-err : goal.returns-in_err-past-clause-err
returns-in_err-past-clause-err g c =
    let p = err_from_is_err_and c.from_residual-in_err-past.result c.from_residual-in_err-past.ensures.1 in
    rw (p.1, p.2) (λ s m k b h.
    c.in_err-past.ensures.err s m k b (c.in_ok-read_folded.ensures.ok s m _
    (c.in_ok-count.ensures.ok s m _ (folded_begins {S = g.row.R.Denot} g.R.Source.read_gives g.R.Source.failure_count m
    s c.args.r.now
    c.args.reader.now c.args.head.now k _ c.requires.nothing h c.max_batches.result c.max_batches.ensures.value))))

pub returns-clause-ok : goal.returns-clause-ok
returns-clause-ok g c = λ s m k h.
    c.in_ok-past.ensures.ok s m k (c.in_ok-read_folded.ensures.ok s m _
    (c.in_ok-count.ensures.ok s m _ (folded_begins {S = g.row.R.Denot} g.R.Source.read_gives g.R.Source.failure_count m
    s c.args.r.now
    c.args.reader.now c.args.head.now k _ c.requires.nothing h c.max_batches.result c.max_batches.ensures.value)))

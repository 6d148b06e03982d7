use Rattle.std.proofs.Common.{refl, sym, ap, subst, ◌∙◌}
use Rattle.std.proofs.lemmas.Result.{err_from_is_err_and}
use Rattle.hyper_matrix.specs.Counts.{Counts}
use Rattle.hyper_matrix.specs.Matrix.{Matrix}
use Rattle.batch_store.specs.Accepted.{accepted, IsBase}
use Rattle.batch_store.specs.Batches.{values}
use Rattle.snap_file.specs.Outcomes.{snapshot_task, ReadsSnapshot}
use Rattle.snap_file.specs.Spelling.{IsKept}
use Rattle.snap_file.specs.Table.{contents, rest_of}
use Rattle.snap_file.proofs.StartLemmas.{read_begun}
use Rattle.snap_file.proofs.StopLemmas.{stops_memory}
use Rattle.snap_file.proofs.BehindLemmas.{behind_rest, behind_end}
use Rattle.snap_file.proofs.read.read_whole.Goals as goal

pub returns-in_err-head-clause-err : goal.returns-in_err-head-clause-err
returns-in_err-head-clause-err g c =
    let p = err_from_is_err_and c.from_residual.result c.from_residual.ensures.1 in
    rw (p.1, p.2)
    (c.in_err-head.ensures.err c.args.r.now (snapshot_task c.args.reader.now.max_bytes) rest_of (λ h o p. behind_rest h o p)
    (read_begun {S = g.row.R.Denot} g.R.Source.read_gives g.R.Source.failure_count c.args.reader.now.max_bytes
    c.args.r.now c.args.reader.now c.requires.pending c.requires.taken c.requires.remainder refl))

pub returns-in_err-batches-clause-err : goal.returns-in_err-batches-clause-err
returns-in_err-batches-clause-err g c =
    let p = err_from_is_err_and c.from_residual-in_err-batches.result c.from_residual-in_err-batches.ensures.1 in
    rw (p.1, p.2)
    (c.in_err-batches.ensures.err c.args.r.now (snapshot_task c.args.reader.now.max_bytes)
    (c.in_ok-head.ensures.ok c.args.r.now (snapshot_task c.args.reader.now.max_bytes) rest_of
    (read_begun {S = g.row.R.Denot} g.R.Source.read_gives g.R.Source.failure_count c.args.reader.now.max_bytes
    c.args.r.now c.args.reader.now c.requires.pending c.requires.taken c.requires.remainder refl)))

pub returns-in_err-base-clause-err : goal.returns-in_err-base-clause-err
returns-in_err-base-clause-err g c =
    let p = err_from_is_err_and c.from_residual-in_err-base.result c.from_residual-in_err-base.ensures.1 in
    rw (p.1, p.2, c.in_err-base.ensures.err)
    (stops_memory {S = g.row.R.Denot} g.R.Source.read_gives g.R.Source.failure_count
    (g.R.Source.at_end c.read_batches.new.r) (snapshot_task c.args.reader.now.max_bytes) c.args.r.now
    c.read_batches.new.r
    c.read_batches.new.reader _
    (c.in_ok-batches.ensures.ok c.args.r.now (snapshot_task c.args.reader.now.max_bytes)
    (c.in_ok-head.ensures.ok c.args.r.now (snapshot_task c.args.reader.now.max_bytes) rest_of
    (read_begun {S = g.row.R.Denot} g.R.Source.read_gives g.R.Source.failure_count c.args.reader.now.max_bytes
    c.args.r.now c.args.reader.now c.requires.pending c.requires.taken c.requires.remainder refl))) (behind_end _))

pub returns-in_err-expect_end-clause-err : goal.returns-in_err-expect_end-clause-err
returns-in_err-expect_end-clause-err g c =
    let p = err_from_is_err_and c.from_residual-in_err-expect_end.result c.from_residual-in_err-expect_end.ensures.1 in
    rw (p.1, p.2)
    (c.in_err-expect_end.ensures.err c.args.r.now c.args.reader.now.max_bytes
    (contents c.in_ok-head.head.origin c.in_ok-head.head.head.setup (accepted c.in_ok-head.head.past.base.counts
    c.in_ok-head.head.past.folded.items (values c.in_ok-batches.batches.items)))
    (c.in_ok-batches.ensures.ok c.args.r.now (snapshot_task c.args.reader.now.max_bytes)
    (c.in_ok-head.ensures.ok c.args.r.now (snapshot_task c.args.reader.now.max_bytes) rest_of
    (read_begun {S = g.row.R.Denot} g.R.Source.read_gives g.R.Source.failure_count c.args.reader.now.max_bytes
    c.args.r.now c.args.reader.now c.requires.pending c.requires.taken c.requires.remainder refl))))

pub invariant_of-list : goal.invariant_of-list
invariant_of-list g c =
    subst (λ (m : Counts). IsBase m c.in_ok-head.head.past.folded.items)
    (sym (ap (λ (m : Matrix). m.counts) c.in_ok-base.ensures.ok))
    (c.in_ok-expect_end.ensures.ok c.args.r.now c.args.reader.now.max_bytes
    (contents c.in_ok-head.head.origin c.in_ok-head.head.head.setup (accepted c.in_ok-head.head.past.base.counts
    c.in_ok-head.head.past.folded.items (values c.in_ok-batches.batches.items)))
    (c.in_ok-batches.ensures.ok c.args.r.now (snapshot_task c.args.reader.now.max_bytes)
    (c.in_ok-head.ensures.ok c.args.r.now (snapshot_task c.args.reader.now.max_bytes) rest_of
    (read_begun {S = g.row.R.Denot} g.R.Source.read_gives g.R.Source.failure_count c.args.reader.now.max_bytes
    c.args.r.now c.args.reader.now c.requires.pending c.requires.taken c.requires.remainder
    refl)))).snapshot.kept.accepted.based

pub invariant_of-result : goal.invariant_of-result
invariant_of-result g c = record {
  kept = subst (λ (m : Counts). IsKept c.in_ok-head.head.head.setup (accepted m c.in_ok-head.head.past.folded.items
      (values c.in_ok-batches.batches.items))) (sym (ap (λ (m : Matrix). m.counts) c.in_ok-base.ensures.ok))
      (c.in_ok-expect_end.ensures.ok c.args.r.now c.args.reader.now.max_bytes
      (contents c.in_ok-head.head.origin c.in_ok-head.head.head.setup (accepted c.in_ok-head.head.past.base.counts
      c.in_ok-head.head.past.folded.items (values c.in_ok-batches.batches.items)))
      (c.in_ok-batches.ensures.ok c.args.r.now (snapshot_task c.args.reader.now.max_bytes)
      (c.in_ok-head.ensures.ok c.args.r.now (snapshot_task c.args.reader.now.max_bytes) rest_of
      (read_begun {S = g.row.R.Denot} g.R.Source.read_gives g.R.Source.failure_count c.args.reader.now.max_bytes
      c.args.r.now c.args.reader.now c.requires.pending c.requires.taken c.requires.remainder refl)))).snapshot.kept;
  based = record {
    rows = ap (λ (m : Matrix). m.rows) c.in_ok-base.ensures.ok ∙ c.in_ok-head.ensures.dims.0;
    cols = ap (λ (m : Matrix). m.cols) c.in_ok-base.ensures.ok ∙ c.in_ok-head.ensures.dims.1;
  };
}

pub returns-clause-ok : goal.returns-clause-ok
returns-clause-ok g c =
    subst (λ (m : Counts). ReadsSnapshot {S = g.row.R.Denot} g.R.Source.read_gives g.R.Source.failure_count
    (g.R.Source.at_end c.expect_end.new.r) c.args.reader.now.max_bytes c.args.r.now c.expect_end.new.r
    c.in_ok-head.head.origin c.in_ok-head.head.head.setup (accepted m c.in_ok-head.head.past.folded.items
    (values c.in_ok-batches.batches.items)))
    (sym (ap (λ (m : Matrix). m.counts) c.in_ok-base.ensures.ok))
    (c.in_ok-expect_end.ensures.ok c.args.r.now c.args.reader.now.max_bytes
    (contents c.in_ok-head.head.origin c.in_ok-head.head.head.setup (accepted c.in_ok-head.head.past.base.counts
    c.in_ok-head.head.past.folded.items (values c.in_ok-batches.batches.items)))
    (c.in_ok-batches.ensures.ok c.args.r.now (snapshot_task c.args.reader.now.max_bytes)
    (c.in_ok-head.ensures.ok c.args.r.now (snapshot_task c.args.reader.now.max_bytes) rest_of
    (read_begun {S = g.row.R.Denot} g.R.Source.read_gives g.R.Source.failure_count c.args.reader.now.max_bytes
    c.args.r.now c.args.reader.now c.requires.pending c.requires.taken c.requires.remainder refl))))

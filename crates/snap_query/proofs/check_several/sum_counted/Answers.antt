use Rattle.snap_export.proofs.SavedLemmas.{if_err_with}
use Rattle.snap_query.proofs.SpanLemmas.{if_ok_with, name_kept, added_below, told_below}
use Rattle.snap_query.proofs.SpanLemmas.{batches_counted, shards_counted}
use Rattle.snap_query.proofs.check_several.sum_counted.Goals as goal

pub returns-clause-same_reference : goal.returns-clause-same_reference
returns-clause-same_reference g c =
    name_kept g.F.SnapshotFiles.load_gives (λ s. s.files.now) (λ s. s.files.ghost_name) (λ s. s.batches) (λ s. s.shards)
    c.load_sum.result c.args.counting.now c.load_sum.new.files c.args.count c.load_sum.ensures.ok
    c.load_sum.ensures.err

pub returns-clause-ok : goal.returns-clause-ok
returns-clause-ok g c =
    if_ok_with c.load_sum.result (λ m h. (
      h.0,
      h.1,
      h.2,
      (added_below g.F.SnapshotFiles.load_gives (λ s. s.files.now) (λ s. s.files.ghost_name) (λ s. s.batches)
          (λ s. s.shards) c.args.counting.now c.load_sum.new.files c.args.count h.0 h.1 h.2 h.3).1,
      h.4,
      batches_counted g.F.SnapshotFiles.load_gives (λ s. s.files.now) (λ s. s.files.ghost_name) (λ s. s.batches)
          (λ s. s.shards) c.args.counting.now c.load_sum.new.files h.0 h.1 h.2 c.requires.begun.0 h.3.loaded,
      shards_counted g.F.SnapshotFiles.load_gives (λ s. s.files.now) (λ s. s.files.ghost_name) (λ s. s.batches)
          (λ s. s.shards) c.args.counting.now c.load_sum.new.files h.0 h.1 h.2 c.requires.begun.1 h.3.loaded,
    )) c.load_sum.ensures.ok

pub returns-clause-err : goal.returns-clause-err
returns-clause-err g c =
    if_err_with c.load_sum.result (λ told h.
    (told_below g.F.SnapshotFiles.load_gives (λ s. s.files.now) (λ s. s.files.ghost_name) (λ s. s.batches)
    (λ s. s.shards) c.args.counting.now c.load_sum.new.files c.args.count told h).1) c.load_sum.ensures.err

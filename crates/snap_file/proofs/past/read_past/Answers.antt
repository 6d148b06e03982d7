use Rattle.std.proofs.Common.{◌≡◌, [], ap}
use Rattle.std.proofs.lemmas.Result.{err_from_is_err_and}
use Rattle.hyper_matrix.specs.Matrix.{Matrix}
use Rattle.batch_store.specs.Accepted.{accepted}
use Rattle.snap_file.specs.Table.{nothing_yet}
use Rattle.snap_file.specs.Lists.{progress_in}
use Rattle.snap_file.proofs.PastLemmas.{past_old, past_new}
use Rattle.snap_file.proofs.past.read_past.Goals as goal

pub read_into-requires-clause-nothing : goal.read_into-requires-clause-nothing
read_into-requires-clause-nothing g c = λ i. record {
  state = accepted (ap (λ (v : Matrix). v.counts) c.new.ensures i) (c.new-2.ensures.items i) [];
  counted = 0;
}

pub returns-then-head-eq-OLD_VERSION-clause-ok : goal.returns-then-head-eq-OLD_VERSION-clause-ok
returns-then-head-eq-OLD_VERSION-clause-ok g c = λ s m k h.
    let begun : progress_in (record {
      base = c.new.result;
      folded = c.new-2.result;
      pairs = c.new-3.result;
      counted =
          0;
    })
    ≡ nothing_yet = (λ i. record {
      state = accepted (ap (λ (v : Matrix). v.counts) c.new.ensures i) (c.new-2.ensures.items i) [];
      counted = 0;
    }) in
    past_old {S = g.row.R.Denot} g.R.Source.read_gives g.R.Source.failure_count m s c.args.r.now c.args.reader.now
    c.args.head.now k _ begun h c.if-head-eq-OLD_VERSION.true

pub returns-in_err-read_into-clause-err : goal.returns-in_err-read_into-clause-err
returns-in_err-read_into-clause-err g c =
    let p = err_from_is_err_and c.from_residual.result c.from_residual.ensures.1 in
    rw (p.1, p.2) (λ s m k b h.
    c.in_err-read_into.ensures.err s m k b (past_new {S = g.row.R.Denot} g.R.Source.read_gives g.R.Source.failure_count
    m s c.args.r.now
    c.args.reader.now c.args.head.now k h c.if-head-eq-OLD_VERSION.false))

pub returns-clause-ok : goal.returns-clause-ok
returns-clause-ok g c = λ s m k h.
    c.in_ok-read_into.ensures.ok s m k (past_new {S = g.row.R.Denot} g.R.Source.read_gives g.R.Source.failure_count m s
    c.args.r.now
    c.args.reader.now c.args.head.now k h c.if-head-eq-OLD_VERSION.false)

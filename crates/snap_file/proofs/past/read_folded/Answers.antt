use Rattle.std.proofs.Common.{◌≡◌, ◌-◌, ◌+◌, suc, arith, refl, ◌∙◌}
use Rattle.std.proofs.Math.Nat.{sub-zero}
use Rattle.std.proofs.lemmas.Result.{err_from_is_err_and}
use Rattle.snap_file.specs.Lists.{progress_in}
use Rattle.snap_file.proofs.ListLemmas.{entry_next, entry_last}
use Rattle.snap_file.proofs.BehindLemmas.{behind_entries}
use Rattle.snap_file.proofs.past.read_folded.Goals as goal

pub returns-in_err-read_entry-clause-err : goal.returns-in_err-read_entry-clause-err
returns-in_err-read_entry-clause-err g c =
    let p = err_from_is_err_and c.from_residual.result c.from_residual.ensures.1 in rw (p.1, p.2) (λ s m k b h.
    let next : c.args.count - c.loop-i.i ≡ suc (c.args.count - (c.loop-i.i + 1)) = omega (arith, c.loop-i-test.true) in
    c.in_err-read_entry.ensures.err s m _
    (λ q. behind_entries c.args.head.now (c.args.count - (c.loop-i.i + 1)) q k b)
    (entry_next {S = g.row.R.Denot} g.R.Source.read_gives g.R.Source.failure_count m s c.loop-i.r
    c.loop-i.reader c.args.head.now k (c.args.count - c.loop-i.i) (c.args.count - (c.loop-i.i + 1))
    (progress_in c.loop-i.past) next (c.loop-i.invariant.read s m k h)))

pub loop-i-init : goal.loop-i-init
loop-i-init g c = record {
  counted = c.requires.counted;
  pairs = c.requires.pairs;
  base = refl;
  failures = refl;
  read = λ s m k h. rw (sub-zero c.args.count) h;
}

pub loop-i-preserved : goal.loop-i-preserved
loop-i-preserved g c =
    let old = c.loop-i.invariant in
    let next : c.args.count - c.loop-i.i ≡ suc (c.args.count - (c.loop-i.i + 1)) = omega (arith, c.loop-i-test.true) in
    record {
      counted = c.in_ok-read_entry.ensures.counted;
      pairs = c.in_ok-read_entry.ensures.pairs;
      base = c.in_ok-read_entry.ensures.base ∙ old.base;
      failures = c.in_ok-read_entry.ensures.no_failure ∙ old.failures;
      read = λ s m k h. c.in_ok-read_entry.ensures.ok s m _
          (entry_next {S = g.row.R.Denot} g.R.Source.read_gives g.R.Source.failure_count m s c.loop-i.r
          c.loop-i.reader c.args.head.now k (c.args.count - c.loop-i.i) (c.args.count - (c.loop-i.i + 1))
          (progress_in c.loop-i.past) next (old.read s m k h));
    }

pub returns-clause-ok : goal.returns-clause-ok
returns-clause-ok g c = λ s m k h.
    let none : c.args.count - c.loop-i.i ≡ 0 = omega (arith, c.loop-i-test.false) in
    entry_last {S = g.row.R.Denot} g.R.Source.read_gives g.R.Source.failure_count m s c.loop-i.r c.loop-i.reader
    c.args.head.now
    k (c.args.count - c.loop-i.i) (progress_in c.loop-i.past) none (c.loop-i.invariant.read s m k h)

use Rattle.std.proofs.Common.{◌≡◌, ◌+◌, ◌-◌, ℕ, List, suc, take, arith, refl, sym, subst, ap, ◌∙◌}
use Rattle.std.proofs.lemmas.Result.{err_from_is_err_and}
use Rattle.std.proofs.lemmas.List.{take_more_set}
use Rattle.std.proofs.Math.Nat.{sub-zero}
use Rattle.std.proofs.Math.ListN.{length-set}
use Rattle.snap_file.specs.Table.{cuts_behind}
use Rattle.snap_file.specs.Outcomes.{HasJudged}
use Rattle.snap_file.proofs.CutLemmas.{cuts_step, cuts_done, rising_none, rising_more, rising_cuts}
use Rattle.snap_file.proofs.head.read_cuts.Goals as goal

pub returns-in_err-cut-clause-err : goal.returns-in_err-cut-clause-err
returns-in_err-cut-clause-err g c =
    let p = err_from_is_err_and c.from_residual.result c.from_residual.ensures.1 in rw (p.1, p.2) (λ s m k h.
    let next : c.args.count - c.loop-i.i ≡ suc (c.args.count - (c.loop-i.i + 1)) = omega (arith, c.loop-i-test.true) in
    c.in_err-cut.ensures.err s m _
    (cuts_step {S = g.row.R.Denot} g.R.Source.read_gives g.R.Source.failure_count m s c.loop-i.r c.loop-i.reader _ _
    c.loop-i.least _ k (c.loop-i.invariant.read s m k h) next))

pub loop-i-init : goal.loop-i-init
loop-i-init g c = record {
  seven = refl;
  low = omega arith;
  rising = rising_none _;
  failures = refl;
  read = λ s m k h. rw (sub-zero c.args.count) h;
}

pub loop-i-preserved : goal.loop-i-preserved
loop-i-preserved g c =
    let old = c.loop-i.invariant in
    let i = c.loop-i.i in
    let cut = c.in_ok-cut.cut in
    let next : c.args.count - i ≡ suc (c.args.count - (i + 1)) = omega (arith, c.loop-i-test.true) in
    let bounds = c.in_ok-cut.ensures.bounds.1 in
    record {
      seven = length-set c.loop-i.cuts i cut ∙ old.seven;
      low = omega (arith, bounds);
      rising = rising_more c.loop-i.cuts i c.loop-i.least cut old.rising c.in_ok-cut.ensures.bounds.0
          c.in_ok-cut.ensures.bounds.1 (omega (arith, c.loop-i-test.true, c.requires.few, old.seven));
      failures = c.in_ok-cut.ensures.no_failure ∙ old.failures;
      read = λ s m k h.
          subst (λ (l : List ℕ). HasJudged {S = g.row.R.Denot} g.R.Source.read_gives g.R.Source.failure_count m s
          c.next_u64_in.new.r c.next_u64_in.new.self (cuts_behind (c.args.count - (i + 1)) (cut + 1) l k))
          (sym (take_more_set c.loop-i.cuts i cut (omega (arith, c.loop-i-test.true, c.requires.few, old.seven))))
          (c.in_ok-cut.ensures.ok s m _ (cuts_step {S = g.row.R.Denot} g.R.Source.read_gives g.R.Source.failure_count m
          s c.loop-i.r c.loop-i.reader _ (c.args.count - (i + 1)) c.loop-i.least (take i c.loop-i.cuts) k
          (old.read s m k h) next));
    }

pub returns-clause-ok : goal.returns-clause-ok
returns-clause-ok g c = λ s m k h.
    let last : c.loop-i.i ≡ c.args.count = omega (arith, c.loop-i-test.false, c.loop-i.auto.i-end) in
    cuts_done {S = g.row.R.Denot} g.R.Source.read_gives g.R.Source.failure_count m s c.loop-i.r c.loop-i.reader
    (c.args.count - c.loop-i.i) c.loop-i.least (take c.loop-i.i c.loop-i.cuts) (take c.args.count c.loop-i.cuts) k
    (c.loop-i.invariant.read s m k h) (omega (arith, last)) (ap (λ (n : ℕ). take n c.loop-i.cuts) last)

pub returns-clause-cuts : goal.returns-clause-cuts
returns-clause-cuts g c =
    let last : c.loop-i.i ≡ c.args.count = omega (arith, c.loop-i-test.false, c.loop-i.auto.i-end) in
    let inv = c.loop-i.invariant in
    rising_cuts c.loop-i.cuts c.loop-i.i c.args.count c.loop-i.least inv.rising last c.requires.few inv.seven

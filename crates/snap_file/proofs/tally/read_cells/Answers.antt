use Rattle.std.proofs.Common.{◌≡◌, ◌-◌, ◌+◌, ℕ, suc, arith, refl, subst, ◌∙◌}
use Rattle.std.proofs.Math.Nat.{sub-zero}
use Rattle.std.proofs.lemmas.Result.{err_from_is_err_and}
use Rattle.snap_file.specs.Table.{cells_behind}
use Rattle.snap_file.specs.Tallies.{tally_of}
use Rattle.snap_file.specs.Outcomes.{HasJudged}
use Rattle.snap_file.proofs.tally.read_cells.Goals as goal

pub returns-in_err-read_cell-clause-err : goal.returns-in_err-read_cell-clause-err
returns-in_err-read_cell-clause-err g c =
    let p = err_from_is_err_and c.from_residual.result c.from_residual.ensures.1 in rw (p.1, p.2) (λ s m done k b h.
    let next : c.args.count - c.loop-i.i ≡ suc (c.args.count - (c.loop-i.i + 1)) = omega (arith, c.loop-i-test.true) in
    c.in_err-read_cell.ensures.err s m (c.args.count - (c.loop-i.i + 1)) done k b
    (subst (λ (n : ℕ). HasJudged {S = g.row.R.Denot} g.R.Source.read_gives g.R.Source.failure_count m s c.loop-i.r
    c.loop-i.reader (cells_behind c.args.head.now c.args.most n (tally_of done c.loop-i.tally) k)) next
    (c.loop-i.invariant.read s m done k h)))

pub loop-i-init : goal.loop-i-init
loop-i-init g c = record {
  counted = c.requires.counted;
  run = c.requires.run;
  added = refl;
  failures = refl;
  read = λ s m done k h. rw (sub-zero c.args.count) h;
}

pub loop-i-preserved : goal.loop-i-preserved
loop-i-preserved g c =
    let old = c.loop-i.invariant in
    let next : c.args.count - c.loop-i.i ≡ suc (c.args.count - (c.loop-i.i + 1)) = omega (arith, c.loop-i-test.true) in
    record {
      counted = c.in_ok-read_cell.ensures.counted;
      run = c.in_ok-read_cell.ensures.run;
      added = omega (arith, c.in_ok-read_cell.ensures.added, old.added);
      failures = c.in_ok-read_cell.ensures.no_failure ∙ old.failures;
      read = λ s m done k h. c.in_ok-read_cell.ensures.ok s m (c.args.count - (c.loop-i.i + 1)) done k
          (subst (λ (n : ℕ). HasJudged {S = g.row.R.Denot} g.R.Source.read_gives g.R.Source.failure_count m s c.loop-i.r
          c.loop-i.reader (cells_behind c.args.head.now c.args.most n (tally_of done c.loop-i.tally) k)) next
          (old.read s m done k h));
    }

pub returns-clause-ok : goal.returns-clause-ok
unfolding cells_behind
returns-clause-ok g c = λ s m done k h.
    let none : c.args.count - c.loop-i.i ≡ 0 = omega (arith, c.loop-i-test.false) in
    subst (λ (n : ℕ). HasJudged {S = g.row.R.Denot} g.R.Source.read_gives g.R.Source.failure_count m s c.loop-i.r
    c.loop-i.reader (cells_behind c.args.head.now c.args.most n (tally_of done c.loop-i.tally) k)) none
    (c.loop-i.invariant.read s m done k h)

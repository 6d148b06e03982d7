use Rattle.std.proofs.Common.{◌≡◌, ◌+◌, ◌<◌, ◌≤◌, ◌∙◌, ℕ, length, get_or, get_or-set_same, get_or-set_other, refl, sym, ap, arith, inl, inr}
use Rattle.std.proofs.lemmas.Bool.{cases_lt}
use Rattle.std.proofs.lemmas.List.{length-set}
use Rattle.log_batches.proofs.Filled.{zero_more}
use Rattle.log_batches.proofs.payload.put_zeros.Goals as goal

pub loop-i-init : goal.loop-i-init
loop-i-init c = record {
  from = omega arith;
  long = refl;
  front = λ k lt. refl;
  zeros = λ k low high. absurd (omega arith);
}

pub loop-i-preserved : goal.loop-i-preserved
loop-i-preserved c =
    let old = c.loop-i.invariant in
    record {
      from = omega (arith, old.from);
      long = length-set c.loop-i.out c.loop-i.i 0 ∙ old.long;
      front = λ k lt. get_or-set_other c.loop-i.out c.loop-i.i k 0 0 (λ e. omega (arith, old.from)) ∙ old.front k lt;
      zeros = zero_more c.args.from c.loop-i.i c.loop-i.out (omega (arith, old.long)) old.zeros;
    }

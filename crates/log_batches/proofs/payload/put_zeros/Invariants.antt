use Rattle.std.proofs.Common.{◌≡◌, ◌<◌, ◌≤◌, ℕ, length, get_or}
use Rattle.log_batches.proofs.payload.put_zeros.Given as goal

abbrev pub invariant-loop-i : goal.invariant-loop-i
invariant-loop-i l = record {
  from : l.from ≤ l.i;
  long : length l.out ≡ length l.fn.out;
  front : (k : ℕ) → k < l.from → get_or l.out k 0 ≡ get_or l.fn.out k 0;
  zeros : (k : ℕ) → l.from ≤ k → k < l.i → get_or l.out k 0 ≡ 0;
}

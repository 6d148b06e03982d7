use Rattle.std.proofs.Common.{◌≡◌, ◌<◌, ℕ, length, get_or}
use Rattle.log_disk.proofs.bytes.sized.Given as goal

abbrev pub invariant-loop-i : goal.invariant-loop-i
invariant-loop-i l = record {
  long : length l.new.items ≡ l.i;
  same : (k : ℕ) → k < l.i → get_or l.new.items k 0 ≡ get_or l.file k 0;
}

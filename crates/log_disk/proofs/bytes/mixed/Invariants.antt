use Rattle.std.proofs.Common.{◌≡◌, ◌⊎◌, ◌<◌, ℕ, length, get_or}
use Rattle.log_disk.proofs.bytes.mixed.Given as goal

abbrev pub invariant-loop-i : goal.invariant-loop-i
invariant-loop-i l = record {
  long : length l.new.items ≡ l.i;
  picked : (k : ℕ) → k < l.i → (get_or l.new.items k 0 ≡ get_or l.one k 0)
      ⊎ (get_or l.new.items k 0 ≡ get_or l.other k 0);
}

use Rattle.std.proofs.Common.{◌≡◌, ◌<◌, ℕ, length, get_or}
use Rattle.snap_salvage.proofs.count.copy_page.Given as goal

abbrev pub invariant-loop-i : goal.invariant-loop-i
invariant-loop-i l = (length l.page ≡ 4096) × ((k : ℕ) → k < l.i → get_or l.page k 0 ≡ get_or l.bytes k 0)

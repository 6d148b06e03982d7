use Rattle.std.proofs.Common.{◌≡◌, ◌<◌, ℕ, get_or}
use Rattle.std.specs.Prelude.{Option, Some}
use Rattle.log_folder.proofs.memory.is_among.Given as goal

-- none before has the number
abbrev pub invariant-loop-i : goal.invariant-loop-i
invariant-loop-i l = (j : ℕ) → j < l.i → (d : Option ℕ) → get_or l.names j d ≡ Some l.number → ⊥

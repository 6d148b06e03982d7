-- Runs of calls of a file.
use Rattle.std.specs.Prelude.{ℕ, List}
use Rattle.log_disk.specs.Disk.{LeavesOnly}

-- From old to new the file had P, and so has each file that a loss of power might have left at any moment.
pub record Stays {D : Type 0} (written : D → List ℕ) (may_leave : D → List ℕ → Type 0) (moment : D → ℕ)
    (left_since : D → ℕ → List ℕ → Type 0) (P : List ℕ → Type 0) (old new : D) : Type 0 where
  pub file : P (written new)
  pub left : (left : List ℕ) → may_leave new left → P left
  pub moments : LeavesOnly moment left_since old new P

-- One row of a matrix.
use Rattle.std.specs.Prelude.{◌≡◌, ℕ, ◌<◌, ◌≤◌, ◌==◌, Some, None}
use Rattle.std.specs.FinMap.{get, retain_keys}
use Rattle.hyper_matrix.specs.Counts.{Counts}
use Rattle.hyper_matrix.specs.declared.row_sum.Entry.{Entry}

-- the entries of row r
unfoldable pub row_of : Counts → ℕ → Counts
row_of m r = retain_keys m (λ p. p.0 == r)

-- row r has no entry at the columns from `low` on and below `high`
abbrev pub IsFree : Counts → ℕ → ℕ → ℕ → Type 0
IsFree m r low high = (c : ℕ) → low ≤ c → c < high → get m (r, c) ≡ None

-- the first entry of row r at column `from` or behind it
pub record IsFirst (m : Counts) (r from : ℕ) (entry : Entry) : Type 0 where
  pub behind : from ≤ entry.col
  pub stands : get m (r, entry.col) ≡ Some entry.count
  pub first : IsFree m r from entry.col

-- row r has no entry at column `from` or behind it
abbrev pub HasNoneFrom : Counts → ℕ → ℕ → Type 0
HasNoneFrom m r from = (c : ℕ) → from ≤ c → get m (r, c) ≡ None

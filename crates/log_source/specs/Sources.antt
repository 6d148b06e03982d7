-- What a source of a file's bytes gives, and what it does to the file.
use Rattle.std.specs.Prelude.{◌≡◌, ℕ, ◌+◌, ◌<◌, List, length, slice_index, Ok, Err}
use Rattle.byte_io.specs.Streams.{Answer}
use Rattle.log_disk.specs.Disk.{Elapses}

-- the bytes are those of the file from this place on, and the next ones stand behind them
abbrev pub GivesFrom : List ℕ → ℕ → Answer → ℕ → Type 0
GivesFrom file at (Ok bytes) next =
    (next ≡ at + length bytes) × ((j : ℕ) → j < length bytes → slice_index bytes j ≡ slice_index file (at + j))
GivesFrom file at (Err fault) next = next ≡ at

-- The file has the same bytes, and a loss of power leaves nothing else than before.
pub record IsUntouched {D : Type 0} (tells : D → Type 0) (written : D → List ℕ) (may_leave : D → List ℕ → Type 0)
    (moment : D → ℕ) (left_since : D → ℕ → List ℕ → Type 0) (old new : D) : Type 0 where
  pub told : tells new
  pub same : written new ≡ written old
  pub fewer : (left : List ℕ) → may_leave new left → may_leave old left
  pub time : Elapses (moment old) (moment new) (left_since old) (left_since new) (may_leave new)

-- What the calls of a log's file do to it, and what a loss of power may do between two syncs. Behind its end a file is
-- 00 without end.
use Rattle.std.specs.Prelude.{◌≡◌, ◌⊎◌, ℕ, ◌+◌, ◌<◌, ◌≤◌, List, length, slice_index}
use Rattle.log_blocks.specs.Files.{Mixed}

-- new is old with these bytes from this place on
pub record Holds (at : ℕ) (bytes old new : List ℕ) : Type 0 where
  pub inside : (j : ℕ) → j < length bytes → slice_index new (at + j) ≡ slice_index bytes j
  pub before : (i : ℕ) → i < at → slice_index new i ≡ slice_index old i
  pub behind : (i : ℕ) → at + length bytes ≤ i → slice_index new i ≡ slice_index old i
  pub longer : length old ≤ length new
  pub ends : at + length bytes ≤ length new

-- new is old, and some of these bytes, which were written from this place on, stand in it
pub record HoldsSome (at : ℕ) (bytes old new : List ℕ) : Type 0 where
  pub mixed : Mixed at bytes old new
  pub longer : length old ≤ length new

-- new is old cut to this length
pub record IsCut (len : ℕ) (old new : List ℕ) : Type 0 where
  pub before : (i : ℕ) → i < len → slice_index new i ≡ slice_index old i
  pub behind : (i : ℕ) → len ≤ i → slice_index new i ≡ 0
  pub longer : (length old ≤ length new) ⊎ (len ≤ length new)
  pub ends : length new ≤ len

-- new is old, where bytes from this length on may be gone
pub record MayBeCut (len : ℕ) (old new : List ℕ) : Type 0 where
  pub bytes : (i : ℕ) → (slice_index new i ≡ slice_index old i) ⊎ ((len ≤ i) × (slice_index new i ≡ 0))
  pub longer : (length old ≤ length new) ⊎ (len ≤ length new)

-- each new outcome of a loss of power is an old outcome after a step
abbrev pub Follows : (List ℕ → List ℕ → Type 0) → (List ℕ → Type 0) → (List ℕ → Type 0) → Type 0
Follows step old new = (left : List ℕ) → new left → (before : List ℕ) × old before × step before left

-- Time goes on: a loss since t might have left what it might have left before, or what it may leave now.
pub record Elapses (before now : ℕ) (past since : ℕ → List ℕ → Type 0) (may_leave : List ℕ → Type 0) : Type 0 where
  pub later : before ≤ now
  pub nothing_else : (t : ℕ) (left : List ℕ) → t ≤ before → since t left → past t left ⊎ may_leave left
  pub keeps : (t : ℕ) (left : List ℕ) → t ≤ before → past t left → since t left

-- A loss of power at any moment since old leaves a file that has P.
pub record LeavesOnly {D : Type 0} (moment : D → ℕ) (left_since : D → ℕ → List ℕ → Type 0) (old new : D)
    (P : List ℕ → Type 0) : Type 0 where
  pub later : moment old ≤ moment new
  pub each : (left : List ℕ) → left_since new (moment old) left → P left
  -- for a run that began earlier
  pub before : (t : ℕ) (left : List ℕ) → t ≤ moment old → left_since new t left → left_since old t left ⊎ P left

-- Which lists are cuts: at most 7 numbers from 1 to 2^40, each below the next.
use Rattle.std.specs.Prelude.{ℕ, ◌+◌, ◌<◌, ◌≤◌, ◌^◌, List, length, slice_index}

pub record AreCuts (cuts : List ℕ) : Type 0 where
  pub few : length cuts ≤ 7
  pub range : (i : ℕ) → i < length cuts → (1 ≤ slice_index cuts i) × (slice_index cuts i ≤ 2 ^ 40)
  pub rising : (i : ℕ) → i + 1 < length cuts → slice_index cuts i < slice_index cuts (i + 1)

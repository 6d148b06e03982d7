-- A walk over a list that finds out whether it is one of cuts.
use Rattle.std.proofs.Common.{◌≡◌, ℕ, ◌+◌, ◌<◌, ◌≤◌, ◌^◌, List, length, get_or, arith}
use Rattle.layer_cascade.specs.Cuts.{AreCuts}

-- the first i are cuts, and the next can't be below `least`
pub record CutsUpTo (cuts : List ℕ) (i least : ℕ) : Type 0 where
  pub some : 1 ≤ least
  pub range : (k : ℕ) → k < i → (1 ≤ get_or cuts k 0) × (get_or cuts k 0 ≤ 2 ^ 40)
  pub rising : (k : ℕ) → k + 1 < i → get_or cuts k 0 < get_or cuts (k + 1) 0
  pub next : (k : ℕ) → k + 1 ≡ i → get_or cuts k 0 < least
  pub lower : AreCuts cuts → i < length cuts → least ≤ get_or cuts i 0

-- Nothing was passed yet.
pub cuts_none : (cuts : List ℕ) → CutsUpTo cuts 0 1
cuts_none cuts = record {
  some = omega arith;
  range = λ k h. absurd (omega arith);
  rising = λ k h. absurd (omega arith);
  next = λ k h. absurd (omega arith);
  lower = λ are h. (are.range 0 h).0;
}

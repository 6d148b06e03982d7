-- The file under a name in memory, and what else a loss of power may leave there.
use Rattle.std.specs.Prelude.{◌≡◌, ◌⊎◌, ℕ, List, [], ◌∷◌, Option}

abbrev pub IsAmong : Option ℕ → List (Option ℕ) → Type 0
IsAmong x [] = ⊥
IsAmong x (y ∷ ys) = (x ≡ y) ⊎ IsAmong x ys

-- a loss of power may leave this under the name
abbrev pub IsLeft : Option ℕ → List (Option ℕ) → Option ℕ → Type 0
IsLeft named older x = (x ≡ named) ⊎ IsAmong x older

-- A page of zeros.
use Rattle.std.proofs.Common.{◌≡◌, inl, inr, ℕ, get_or, arith}
use Rattle.std.specs.Prelude.{replicate}
use Rattle.std.proofs.lemmas.Bool.{cases_lt}
use Rattle.std.proofs.lemmas.List.{get_or_past, get_or-replicate, length-replicate}

pub replicated : (n j b : ℕ) → get_or (replicate n b) j b ≡ b
replicated n j b = elim (cases_lt j n) [
  | inl within ↦ get_or-replicate n j b b within
  | inr past ↦ get_or_past (replicate n b) j b
      (omega (arith, length-replicate n b))
]

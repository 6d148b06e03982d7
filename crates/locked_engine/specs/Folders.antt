-- What contracts see of a folder.
--     Folding         up to which place of the book all batches are sealed, if any are, and how many sums are left to be
--                     made; nothing_sealed: a folder that has sealed nothing
--     sums_left n b   how many sums are left: those of shards, and that of the book
--     Leaves          where nothing is sealed no sum is left
--     IsMade f        something is sealed, and all its sums are made
use Rattle.std.specs.Prelude.{◌≡◌, ℕ, ◌+◌, Option, None, Some, IsSome, refl}
use Rattle.std.specs.Coded.{Coded, code_by, coded×, coded_ℕ, coded_option}
use Rattle.std.specs.declared.sync.Arc.{Arc}
use Rattle.std.specs.declared.alloc.Global.{Global}
use Rattle.batch_store.specs.BookFolds.{DueFold}

pub record Folding : Type 0 where
  pub place : Option ℕ
  pub left : ℕ

abbrev pub sealed_to : Option ℕ → ℕ → Folding
sealed_to place left = record { place = place; left = left }

abbrev pub nothing_sealed : Folding
nothing_sealed = sealed_to None 0

abbrev pub coded_folding : Coded Folding
coded_folding =
    code_by (Option ℕ × ℕ) (coded× (coded_option coded_ℕ) coded_ℕ) (λ f. (f.place, f.left))
    (λ p. sealed_to p.0 p.1) (λ _. refl)

abbrev pub sums_left : ℕ → Option (Arc DueFold Global) → ℕ
sums_left n None = n
sums_left n (Some b) = n + 1

abbrev pub Leaves : Option ℕ → ℕ → Option (Arc DueFold Global) → Type 0
Leaves place n book = place ≡ None → sums_left n book ≡ 0

abbrev pub IsMade : Folding → Type 0
IsMade f = IsSome f.place × (f.left ≡ 0)

-- A file in memory: what is durable, what the next sync makes durable, and what is written, now and at earlier moments.
use Rattle.std.specs.Prelude.{◌≡◌, ◌⊎◌, ℕ, ◌<◌, ◌≤◌, List, [], ◌∷◌, length, drop, slice_index, Vec}
use Rattle.std.proofs.Common.{inl, inr, refl, subst}

-- Each byte is that of the one file or that of the other, and there are no fewer than one of them has.
pub record Between (one other left : List ℕ) : Type 0 where
  pub bytes : (i : ℕ) → (slice_index left i ≡ slice_index one i) ⊎ (slice_index left i ≡ slice_index other i)
  pub longer : (length one ≤ length left) ⊎ (length other ≤ length left)

-- what the next sync makes durable: each byte as it is durable, or as it is written
abbrev pub IsPending : List ℕ → List ℕ → List ℕ → Type 0
IsPending durable written pending =
    (i : ℕ) → (slice_index pending i ≡ slice_index durable i) ⊎ (slice_index pending i ≡ slice_index written i)

-- the first bytes of a file, with 00 behind its end
pub record IsSized (len : ℕ) (old new : List ℕ) : Type 0 where
  pub long : length new ≡ len
  pub same : (i : ℕ) → i < len → slice_index new i ≡ slice_index old i

-- a loss of power at one of these moments leaves it, of each of which there is what was durable and what was written
abbrev pub HadBeen : {Z : Type 0} → List (Vec ℕ Z × Vec ℕ Z) → List ℕ → Type 0
HadBeen [] left = ⊥
HadBeen (moment ∷ moments) left = Between moment.0.items moment.1.items left ⊎ HadBeen moments left

-- a loss of power since moment t leaves it, where `past` are the earlier moments, in order
abbrev pub LeftSince : {Z : Type 0} → List (Vec ℕ Z × Vec ℕ Z) → List ℕ → List ℕ → ℕ → List ℕ → Type 0
LeftSince past durable written t left = Between durable written left ⊎ HadBeen (drop t past) left

drop_own : {X : Type 0} (xs : List X) → drop (length xs) xs ≡ []
drop_own [] = refl
drop_own (x ∷ xs) = drop_own xs

pub only_now_left : {Z : Type 0} (past : List (Vec ℕ Z × Vec ℕ Z)) (durable written left : List ℕ) →
    LeftSince past durable written (length past) left → Between durable written left
only_now_left {Z} past durable written left (inl now) = now
only_now_left {Z} past durable written left (inr had) =
    absurd (subst (λ (l : List (Vec ℕ Z × Vec ℕ Z)). HadBeen l left) (drop_own past) had)

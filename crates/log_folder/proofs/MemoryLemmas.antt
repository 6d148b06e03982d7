-- What a loss of power may leave under a name in memory.
use Rattle.std.proofs.Common.{◌≡◌, ◌⊎◌, inl, inr, ⊎_elim, ℕ, zero, suc, ◌<◌, List, [], ◌∷◌, ◌++◌, length, get_or}
use Rattle.std.proofs.Common.{sym, subst, arith}
use Rattle.std.specs.Prelude.{Option, Some}
use Rattle.log_folder.specs.Memory.{IsAmong, IsLeft}

among_push : (x y : Option ℕ) (ys : List (Option ℕ)) → IsAmong x (ys ++ y ∷ []) → IsAmong x ys ⊎ (x ≡ y)
among_push x y [] (inl here) = inr here
among_push x y [] (inr none) = absurd none
among_push x y (z ∷ ys) (inl here) = inl (inl here)
among_push x y (z ∷ ys) (inr later) = ⊎_elim (λ a. inl (inr a)) (λ e. inr e) (among_push x y ys later)

pub left_pushed : (named : Option ℕ) (older next : List (Option ℕ)) (number : ℕ) (x : Option ℕ) →
    next ≡ older ++ named ∷ [] → IsLeft (Some number) next x → IsLeft named older x ⊎ (x ≡ Some number)
left_pushed named older next number x is (inl here) = inr here
left_pushed named older next number x is (inr among) =
    ⊎_elim
    (λ a. inl (inr a))
    (λ e. inl (inl e))
    (among_push x named older (subst (λ (l : List (Option ℕ)). IsAmong x l) is among))

pub none_among : (x : Option ℕ) (ys : List (Option ℕ)) →
    ((j : ℕ) → j < length ys → (d : Option ℕ) → get_or ys j d ≡ x → ⊥) → IsAmong x ys → ⊥
none_among x [] none among = among
none_among x (y ∷ ys) none (inl here) = none zero (omega arith) y (sym here)
none_among x (y ∷ ys) none (inr later) = none_among x ys (λ j lt d. none (suc j) (omega arith) d) later

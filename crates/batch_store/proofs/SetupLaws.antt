-- Cuts in seven places.
use Rattle.std.proofs.Common.{◌≡◌, ℕ, zero, suc, ◌-◌, ◌<◌, List, [], ◌∷◌, ◌++◌, length, take, get_or, replicate, refl}
use Rattle.std.proofs.Common.{sym, ◌∙◌, ap, arith}
use Rattle.std.proofs.Math.ListN.{set}
use Rattle.batch_store.specs.Setups.{padded, ArePadded}

-- the next place takes the next cut
pub filled : (cuts : List ℕ) (i m x d : ℕ) → i < length cuts → x ≡ get_or cuts i d →
    set (take i cuts ++ replicate (suc m) 0) i x ≡ take (suc i) cuts ++ replicate m 0
filled [] i m x d h is = absurd (omega arith)
filled (c ∷ cs) zero m x d h is = ap (λ y. y ∷ replicate m 0) is
filled (c ∷ cs) (suc i) m x d h is = ap (λ xs. c ∷ xs) (filled cs i m x d (omega arith) is)

pub take_front : (xs ys : List ℕ) → take (length xs) (xs ++ ys) ≡ xs
take_front [] ys = refl
take_front (x ∷ xs) ys = ap (λ l. x ∷ l) (take_front xs ys)

pub padded_again : (cuts places : List ℕ) (n : ℕ) → places ≡ padded cuts → n ≡ length cuts → ArePadded places n ×
    (take n places ≡ cuts)
padded_again cuts places n is counted =
    let front : take n places ≡ cuts = ap (λ (k : ℕ). take k places) counted ∙ ap (take (length cuts)) is
    ∙ take_front cuts (replicate (7 - length cuts) 0) in (
      record {
        told = ap padded front ∙ sym is;
        counted = ap length front ∙ sym counted;
      },
      front,
    )

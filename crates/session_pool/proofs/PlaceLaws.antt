-- What stands at a place of two beginnings of one list.
use Rattle.std.proofs.Common.{◌≡◌, ℕ, zero, suc, ◌<◌, List, [], ◌∷◌, length, Some, slice_get, sym, ◌∙◌, arith}
use mathlib.Core.List.{IsPrefix}
use Rattle.session_pool.specs.SettleLaws.{place_later}

place_same : {A : Type 0} (xs ys : List A) (k : ℕ) → IsPrefix xs ys → k < length xs → slice_get ys k ≡ slice_get xs k
place_same [] ys k p h = absurd (omega arith)
place_same (x ∷ xs) [] k p h = absurd (cc (p.1))
place_same (x ∷ xs) (y ∷ ys) zero p h = cc (p.1)
place_same (x ∷ xs) (y ∷ ys) (suc k) p h = place_same xs ys k (p.0, cc (p.1)) (omega arith)

-- what one of them has at a place of the other, the other has too
pub stands_too : {A : Type 0} (known seen all : List A) (k : ℕ) → k < length known → IsPrefix known all →
    IsPrefix seen all → (x : A) → slice_get seen k ≡ Some x → slice_get known k ≡ Some x
stands_too known seen all k less p q x there =
    sym (place_same known all k p less) ∙ place_later seen all k x q there

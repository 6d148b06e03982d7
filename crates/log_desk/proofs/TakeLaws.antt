-- Fronts of lists that begin one list.
use Rattle.std.proofs.Common.{◌≡◌, ℕ, zero, suc, ◌+◌, ◌≤◌, ◌<◌, List, [], ◌∷◌, ◌++◌, length, take, drop, slice_get}
use Rattle.std.proofs.Common.{refl, ap, sym, ◌∙◌, arith, append_assoc}
use Rattle.std.proofs.lemmas.List.{take-append-drop, take-take, length-take-le}
use mathlib.Core.List.{IsPrefix}

-- two beginnings of one list have the same fronts
pub same_front : {A : Type 0} (n : ℕ) (xs ys zs : List A) → IsPrefix xs zs → IsPrefix ys zs → n ≤ length xs →
    n ≤ length ys → take n xs ≡ take n ys
same_front zero xs ys zs p q a b = refl
same_front (suc n) [] ys zs p q a b = absurd (omega arith)
same_front (suc n) (x ∷ xs) [] zs p q a b = absurd (omega arith)
same_front (suc n) (x ∷ xs) (y ∷ ys) [] p q a b = absurd (cc (p.1))
same_front (suc n) (x ∷ xs) (y ∷ ys) (z ∷ zs) p q a b =
    let rest = same_front n xs ys zs (p.0, cc (p.1)) (q.0, cc (q.1)) (omega arith) (omega arith) in
    let heads : x ≡ y = cc (p.1, q.1) in
    λ i. heads i ∷ rest i

-- a shorter front begins a longer one
pub front_begins : {A : Type 0} (m n : ℕ) (xs ys zs : List A) → IsPrefix xs zs → IsPrefix ys zs → m ≤ n →
    m ≤ length xs → n ≤ length ys → IsPrefix (take m xs) (take n ys)
front_begins m n xs ys zs p q less a b =
    let same : take m xs ≡ take m (take n ys) =
    same_front m xs ys zs p q a (omega arith) ∙ sym (take-take m n ys less) in
    (drop m (take n ys), ap (λ l. l ++ drop m (take n ys)) same ∙ take-append-drop m (take n ys))

slice_get_front : {A : Type 0} (n : ℕ) (xs : List A) (k : ℕ) → k < n → slice_get (take n xs) k ≡ slice_get xs k
slice_get_front zero xs k h = absurd (omega arith)
slice_get_front (suc n) [] k h = refl
slice_get_front (suc n) (x ∷ xs) zero h = refl
slice_get_front (suc n) (x ∷ xs) (suc k) h = slice_get_front n xs k (omega arith)

-- what stands at a place of a front
pub same_at : {A : Type 0} (n : ℕ) (xs ys zs : List A) (k : ℕ) → IsPrefix xs zs → IsPrefix ys zs → k < n →
    n ≤ length xs → k < length ys → slice_get (take n xs) k ≡ slice_get ys k
same_at n xs ys zs k p q h a b =
    slice_get_front n xs k h
    ∙ (sym (slice_get_front (k + 1) xs k (omega arith))
    ∙ (ap (λ l. slice_get l k) (same_front (k + 1) xs ys zs p q (omega arith) (omega arith))
    ∙ slice_get_front (k + 1) ys k (omega arith)))

-- a front of one is the front of another that is no shorter
pub front_of_other : {A : Type 0} (n : ℕ) (old xs ys zs : List A) → old ≡ take n xs → n ≤ length xs →
    IsPrefix xs zs → IsPrefix ys zs → length old ≤ length ys → old ≡ take (length old) ys
front_of_other n old xs ys zs is within p q less =
    let len : length old ≡ n = ap length is ∙ length-take-le n xs within in
    is ∙ (same_front n xs ys zs p q within (omega (arith, len, less)) ∙ ap (λ k. take k ys) (sym len))

-- a front of a beginning begins the list too
pub front_of_all : {A : Type 0} (n : ℕ) (xs zs : List A) → IsPrefix xs zs → IsPrefix (take n xs) zs
front_of_all n xs zs p = (
  drop n xs ++ p.0,
  sym (append_assoc (take n xs) (drop n xs) p.0) ∙ (ap (λ l. l ++ p.0) (take-append-drop n xs) ∙ p.1),
)

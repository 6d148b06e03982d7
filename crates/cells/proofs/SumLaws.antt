-- What lists of cells come to doesn't depend on their order, and tells where their cells stand.
use Rattle.std.proofs.Common.{◌≡◌, ℕ, zero, suc, ◌+◌, ◌<◌, ◌≤◌, ◌&&◌, Bool, true, false, cond, eqb, ltb, List, [], ◌∷◌}
use Rattle.std.proofs.Common.{◌++◌, take, Option, Some, None, length, get_or, sym, ◌∙◌, ap, refl, inl, inr, arith}
use Rattle.std.specs.Prelude.{unwrap_or}
use Rattle.std.specs.List.Sorted.{IsPermutation}
use Rattle.std.proofs.lemmas.Bool.{lt-ltb, le-ltb, cases_lt, eqb-true, eq-eqb}
use Rattle.std.proofs.lemmas.List.Elements.{All-head, All-tail}
use Rattle.std.proofs.lemmas.List.Recursion.{is_sum_by}
use Rattle.std.proofs.lemmas.List.Sorted.{sum_by-IsPermutation}
use Rattle.cells.specs.declared.cell.Cell.{Cell}
use Rattle.cells.specs.Bounds.{IsWithin, AreWithin}
use Rattle.cells.specs.Sums.{cell_total, stands_at, sum_at}

-- how many cells of a list are at the place q, and their counts together
abbrev hits : ℕ × ℕ → List Cell → ℕ
hits q [] = 0
hits q (x ∷ xs) = cond (stands_at q x) 1 0 + hits q xs

abbrev amount : ℕ × ℕ → List Cell → ℕ
amount q [] = 0
amount q (x ∷ xs) = cond (stands_at q x) x.count 0 + amount q xs

-- what two numbers say of a place
abbrev told_by : ℕ → ℕ → Option ℕ
told_by n a = cond (ltb 0 n) (Some a) None

told_some : (n a : ℕ) → 0 < n → told_by n a ≡ Some a
told_some n a h = ap (λ b. cond b (Some a) None) (lt-ltb 0 n h)

told_none : (n a : ℕ) → n ≡ 0 → told_by n a ≡ None
told_none n a h = ap (λ b. cond b (Some a) None) (le-ltb 0 n (omega arith))

no_amount : (q : ℕ × ℕ) (xs : List Cell) → hits q xs ≡ 0 → amount q xs ≡ 0
no_amount q [] h = refl
no_amount q (x ∷ xs) h = step (no_amount q xs) (stands_at q x) h
  where
    step : (hits q xs ≡ 0 → amount q xs ≡ 0) → (b : Bool) → cond b 1 0 + hits q xs ≡ 0 →
        cond b x.count 0 + amount q xs ≡ 0
    step rest true h = absurd (omega arith)
    step rest false h = omega (arith, rest (omega arith))

told_amount : (n a : ℕ) → (n ≡ 0 → a ≡ 0) → unwrap_or (told_by n a) 0 ≡ a
told_amount n a quiet = elim (cases_lt 0 n) [
  | inl some ↦ ap (λ o. unwrap_or o 0) (told_some n a some)
  | inr none ↦ ap (λ o. unwrap_or o 0) (told_none n a (omega arith)) ∙ sym (quiet (omega arith))
]

sum_at-told : (q : ℕ × ℕ) (xs : List Cell) → sum_at q xs ≡ told_by (hits q xs) (amount q xs)
sum_at-told q [] = sym (told_none 0 0 refl)
sum_at-told q (x ∷ xs) = step (sum_at-told q xs) (no_amount q xs) (stands_at q x)
  where
    step : sum_at q xs ≡ told_by (hits q xs) (amount q xs) → (hits q xs ≡ 0 → amount q xs ≡ 0) → (b : Bool) →
        cond b (Some (x.count + unwrap_or (sum_at q xs) 0)) (sum_at q xs) ≡ told_by (cond b 1 0 + hits q xs)
        (cond b x.count 0 + amount q xs)
    step rest quiet false = rest ∙ ap (λ n. told_by n (amount q xs)) {x = hits q xs} {y = 0 + hits q xs} (omega arith)
        ∙ ap (told_by (0 + hits q xs)) {x = amount q xs} {y = 0 + amount q xs} (omega arith)
    step rest quiet true = ap (λ n. Some (x.count + n)) (ap (λ o. unwrap_or o 0) rest
        ∙ told_amount (hits q xs) (amount q xs) quiet)
        ∙ sym (told_some (1 + hits q xs) (x.count + amount q xs) (omega arith))

-- the counts at a place come to the same in any order
pub sum_at-permutation : (q : ℕ × ℕ) (xs ys : List Cell) → IsPermutation xs ys → sum_at q ys ≡ sum_at q xs
sum_at-permutation q xs ys h =
    let one = is_sum_by (hits q) (λ c. cond (stands_at q c) 1 0) refl (λ _ _. refl) in
    let all = is_sum_by (amount q) (λ c. cond (stands_at q c) c.count 0) refl (λ _ _. refl) in
    sum_at-told q ys ∙ ap (λ n. told_by n (amount q ys)) (one ys ∙ sum_by-IsPermutation _ xs ys h ∙ sym (one xs))
    ∙ ap (told_by (hits q xs)) (all ys ∙ sum_by-IsPermutation _ xs ys h ∙ sym (all xs)) ∙ sym (sum_at-told q xs)

pub cell_total-permutation : (xs ys : List Cell) → IsPermutation xs ys → cell_total ys ≡ cell_total xs
cell_total-permutation xs ys h = is_sum_by cell_total (λ c. c.count) refl (λ _ _. refl) ys
    ∙ sum_by-IsPermutation _ xs ys h ∙ sym (is_sum_by cell_total (λ c. c.count) refl (λ _ _. refl) xs)

stands_here : (x : Cell) → stands_at (x.row, x.col) x ≡ true
stands_here x = ap (λ b. b && eqb x.col x.col) (eq-eqb x.row x.row refl) ∙ eq-eqb x.col x.col refl

-- something stands at the place of each cell
some_there : (xs : List Cell) (k : ℕ) (d : Cell) → k < length xs → (n : ℕ) ×
    (sum_at ((get_or xs k d).row, (get_or xs k d).col) xs ≡ Some n)
some_there [] k d h = absurd (omega arith)
some_there (x ∷ xs) zero d h = (
  x.count + unwrap_or (sum_at (x.row, x.col) xs) 0,
  ap (λ b. cond b (Some (x.count + unwrap_or (sum_at (x.row, x.col) xs) 0)) (sum_at (x.row, x.col) xs))
      (stands_here x),
)
some_there (x ∷ xs) (suc k) d h = step (stands_at ((get_or xs k d).row, (get_or xs k d).col) x)
    (some_there xs k d (omega arith))
  where
    step : (b : Bool) → (n : ℕ) × (sum_at ((get_or xs k d).row, (get_or xs k d).col) xs ≡ Some n) → (n : ℕ) ×
        (cond b (Some (x.count + unwrap_or (sum_at ((get_or xs k d).row, (get_or xs k d).col) xs) 0))
        (sum_at ((get_or xs k d).row, (get_or xs k d).col) xs) ≡ Some n)
    step true there = (x.count + unwrap_or (sum_at ((get_or xs k d).row, (get_or xs k d).col) xs) 0, refl)
    step false there = there

-- a place where something stands is that of a cell, and so lies within the dimensions
place_within : (r c : ℕ) (xs : List Cell) (q : ℕ × ℕ) (n : ℕ) → AreWithin r c xs → sum_at q xs ≡ Some n → (q.0 < r) ×
    (q.1 < c)
place_within r c [] q n w e = absurd (cc)
place_within r c (x ∷ xs) q n w e = step (place_within r c xs q n (All-tail (IsWithin r c) x xs w)) (eqb q.0 x.row)
    (eqb q.1 x.col) refl refl e
  where
    first : IsWithin r c x
    first = All-head (IsWithin r c) x xs w

    step : (sum_at q xs ≡ Some n → (q.0 < r) × (q.1 < c)) → (a b : Bool) → eqb q.0 x.row ≡ a → eqb q.1 x.col ≡ b →
        cond (a && b) (Some (x.count + unwrap_or (sum_at q xs) 0)) (sum_at q xs) ≡ Some n → (q.0 < r) × (q.1 < c)
    step rest true true t u e = (
      omega (arith, eqb-true q.0 x.row t, first.0),
      omega (arith, eqb-true q.1 x.col u, first.1),
    )
    step rest true false t u e = rest e
    step rest false b t u e = rest e

-- a list that comes to the same at each place lies within the same dimensions
pub within_same : (xs ys : List Cell) → ((q : ℕ × ℕ) → sum_at q ys ≡ sum_at q xs) → (r c : ℕ) → AreWithin r c xs →
    AreWithin r c ys
within_same xs ys same r c w k d h =
    let there = some_there ys k d h in
    place_within r c xs ((get_or ys k d).row, (get_or ys k d).col) there.0 w
    (sym (same ((get_or ys k d).row, (get_or ys k d).col)) ∙ there.1)

-- the total of one cell more, and of the first cells
pub total-push : (done : List Cell) (cell : Cell) → cell_total (done ++ cell ∷ []) ≡ cell_total done + cell.count
total-push [] cell = omega arith
total-push (x ∷ done) cell = omega (arith, total-push done cell)

pub total_take : (cells : List Cell) (n : ℕ) → cell_total (take n cells) ≤ cell_total cells
total_take [] zero = omega arith
total_take [] (suc n) = omega arith
total_take (x ∷ cells) zero = omega arith
total_take (x ∷ cells) (suc n) = omega (arith, total_take cells n)

-- the total of two lists together
pub total-append : (xs ys : List Cell) → cell_total (xs ++ ys) ≡ cell_total xs + cell_total ys
total-append [] ys = omega arith
total-append (x ∷ xs) ys = omega (arith, total-append xs ys)

-- A piece of a list, and a piece of a piece.
use Rattle.std.proofs.Common.{◌≡◌, ℕ, ◌+◌, ◌-◌, ◌≤◌, List, [], drop, get_or, length, sym, ◌∙◌, ap, arith}
use Rattle.std.proofs.Common.{length-take, length-drop}
use Rattle.std.specs.List.{slice_range}
use Rattle.std.proofs.lemmas.List.{take_all, same_lists, get_or-take, get_or-drop}

pub range-length : {X : Type 0} (xs : List X) (from to : ℕ) → from ≤ to → to ≤ length xs →
    length (slice_range xs from to) ≡ to - from
range-length xs from to order within = omega (arith, length-take (to - from) (drop from xs), length-drop from xs)

pub range-all : {X : Type 0} (xs : List X) (n : ℕ) → n ≡ length xs → slice_range xs 0 n ≡ xs
range-all xs n is = take_all (n - 0) xs (omega (arith, is))

pub range-none : {X : Type 0} (from to : ℕ) (xs : List X) → xs ≡ [] → from ≤ to → to ≤ length xs →
    [] ≡ slice_range xs from to
range-none from to xs none order within =
    let empty : to ≡ 0 = omega (arith, ap length none) in
    let first : from ≡ 0 = omega arith in
    sym none ∙ sym (range-all xs 0 (omega (arith, ap length none))) ∙ (λ i. slice_range xs (sym first i) (sym empty i))

pub range-range : {X : Type 0} (xs : List X) (from to a b : ℕ) → from ≤ to → to ≤ length xs → a ≤ b →
    b ≤ to - from → slice_range xs (from + a) (from + b) ≡ slice_range (slice_range xs from to) a b
range-range xs from to a b order within order2 within2 =
    let long : length (slice_range xs (from + a) (from + b)) ≡ b - a = omega (
      arith,
      range-length xs (from + a) (from + b) (omega arith) (omega arith),
    ) in
    let inner : length (slice_range xs from to) ≡ to - from = range-length xs from to order within in
    same_lists (slice_range xs (from + a) (from + b)) (slice_range (slice_range xs from to) a b)
    (omega (arith, long, range-length (slice_range xs from to) a b order2 (omega (arith, inner))))
    (λ k d h.
    get_or-take (from + b - (from + a)) (drop (from + a) xs) k d (omega (arith, h, long))
    ∙ get_or-drop (from + a) xs k d
    ∙ ap (λ n. get_or xs n d) {x = from + a + k} {y = from + (a + k)} (omega arith)
    ∙ sym (get_or-take (b - a) (drop a (slice_range xs from to)) k d (omega (arith, h, long))
    ∙ get_or-drop a (slice_range xs from to) k d
    ∙ get_or-take (to - from) (drop from xs) (a + k) d (omega (arith, h, long))
    ∙ get_or-drop from xs (a + k) d))

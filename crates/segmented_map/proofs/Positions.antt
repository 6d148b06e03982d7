-- Places in one list behind another.
use Rattle.std.proofs.Common.{◌≡◌, ℕ, zero, suc, ◌+◌, ◌<◌, Bool, true, false, cond, List, [], ◌∷◌, ◌++◌, length}
use Rattle.std.proofs.Common.{Option, None, Some, position, slice_get, get_or, refl, sym, ◌∙◌, ap, arith, option_map}
use Rattle.std.proofs.Common.{true≢false, length-append}
use Rattle.std.specs.Cmp.{IsEquivalence}
use Rattle.std.specs.List.{position_from, AllByRecursion, IsDistinct}
use Rattle.std.proofs.lemmas.Iterator.Adapters.{position_from-zero}
use Rattle.std.proofs.lemmas.List.{get_or_append_left, get_or-append-add}
use Rattle.std.proofs.lemmas.List.Quantifiers.{position-Some}
use Rattle.std.proofs.lemmas.Map.Keys.{apart_from_distinct}
use Rattle.std.proofs.lemmas.Option.{none-some}

-- ---- by index
pub get-front : {X : Type 0} (xs ys : List X) (i : ℕ) → i < length xs → slice_get (xs ++ ys) i ≡ slice_get xs i
get-front [] ys i h = absurd (omega (arith, h))
get-front (x ∷ xs) ys zero h = refl
get-front (x ∷ xs) ys (suc i) h = get-front xs ys i (omega (arith, h))

pub get-behind : {X : Type 0} (xs ys : List X) (i j : ℕ) → i ≡ length xs + j →
    slice_get (xs ++ ys) i ≡ slice_get ys j
get-behind [] ys i j h = ap (slice_get ys) {x = i} {y = j} (omega (arith, h))
get-behind (x ∷ xs) ys zero j h = absurd (omega (arith, h))
get-behind (x ∷ xs) ys (suc i) j h = get-behind xs ys i j (omega (arith, h))

-- what is there in the first list is there in both
pub get-within : {X : Type 0} (xs ys : List X) (i : ℕ) (x : X) → slice_get xs i ≡ Some x →
    slice_get (xs ++ ys) i ≡ Some x
get-within [] ys i x h = absurd (none-some _ h)
get-within (y ∷ xs) ys zero x h = h
get-within (y ∷ xs) ys (suc i) x h = get-within xs ys i x h

-- ---- by a test
module _ {X : Type 0} (p : X → Bool) where
  from-front : (n i : ℕ) (xs ys : List X) → position_from p n xs ≡ Some i → position_from p n (xs ++ ys) ≡ Some i
  from-front n i [] ys h = absurd (none-some _ h)
  from-front n i (x ∷ xs) ys h = by (p x) h (from-front (n + 1) i xs ys)
    where
      by : (t : Bool) → cond t (Some n) (position_from p (n + 1) xs) ≡ Some i →
          (position_from p (n + 1) xs ≡ Some i → position_from p (n + 1) (xs ++ ys) ≡ Some i) →
          cond t (Some n) (position_from p (n + 1) (xs ++ ys)) ≡ Some i
      by true h rest = h
      by false h rest = rest h

  from-behind : (n : ℕ) (xs ys : List X) → position_from p n xs ≡ None →
      position_from p n (xs ++ ys) ≡ position_from p (n + length xs) ys
  from-behind n [] ys h = ap (λ k. position_from p k ys) {x = n} {y = n + 0} (omega arith)
  from-behind n (x ∷ xs) ys h = by (p x) h (from-behind (n + 1) xs ys)
      ∙ ap (λ k. position_from p k ys) {x = n + 1 + length xs} {y = n + suc (length xs)} (omega arith)
    where
      by : (t : Bool) → cond t (Some n) (position_from p (n + 1) xs) ≡ None →
          (position_from p (n + 1) xs ≡ None →
          position_from p (n + 1) (xs ++ ys) ≡ position_from p (n + 1 + length xs) ys) →
          cond t (Some n) (position_from p (n + 1) (xs ++ ys)) ≡ position_from p (n + 1 + length xs) ys
      by true h rest = absurd (none-some _ (sym h))
      by false h rest = rest h

  from-shifted : (n k : ℕ) (ys : List X) →
      position_from p (n + k) ys ≡ option_map (λ j. n + j) (position_from p k ys)
  from-shifted n k [] = refl
  from-shifted n k (y ∷ ys) = by (p y) (
      ap (λ m. position_from p m ys) {x = n + k + 1} {y = n + (k + 1)} (omega arith) ∙ from-shifted n (k + 1) ys)
    where
      by : (t : Bool) → position_from p (n + k + 1) ys ≡ option_map (λ j. n + j) (position_from p (k + 1) ys) →
          cond t (Some (n + k)) (position_from p (n + k + 1) ys) ≡ option_map (λ j. n + j)
          (cond t (Some k) (position_from p (k + 1) ys))
      by true rest = refl
      by false rest = rest

  -- what is found in the first list is found in both
  pub position-front : (xs ys : List X) (i : ℕ) → position p xs ≡ Some i → position p (xs ++ ys) ≡ Some i
  position-front xs ys i h = position_from-zero p (xs ++ ys)
      ∙ from-front 0 i xs ys (sym (position_from-zero p xs) ∙ h)

  -- what isn't is found behind it
  pub position-behind : (xs ys : List X) → position p xs ≡ None →
      position p (xs ++ ys) ≡ option_map (λ j. length xs + j) (position p ys)
  position-behind xs ys h = position_from-zero p (xs ++ ys)
      ∙ from-behind 0 xs ys (sym (position_from-zero p xs) ∙ h)
      ∙ ap (λ k. position_from p k ys) {x = 0 + length xs} {y = length xs + 0} (omega arith)
      ∙ from-shifted (length xs) 0 ys
      ∙ ap (option_map (λ j. length xs + j)) (sym (position_from-zero p ys))

  -- what the second list doesn't have is where the first has it
  pub position-first : (xs ys : List X) → position p ys ≡ None → position p (xs ++ ys) ≡ position p xs
  position-first xs ys none = by (position p xs) refl
    where
      by : (o : Option ℕ) → position p xs ≡ o → position p (xs ++ ys) ≡ position p xs
      by None h = position-behind xs ys h ∙ ap (option_map (λ j. length xs + j)) none ∙ sym h
      by (Some i) h = position-front xs ys i h ∙ sym h

-- ---- by a key, among keys no two of which are equal
all-front : {X : Type 0} (P : X → Type 0) (xs ys : List X) → AllByRecursion P (xs ++ ys) → AllByRecursion P xs
all-front P [] ys h = tt
all-front P (x ∷ xs) ys h = (h.0, all-front P xs ys h.1)

module _ {K : Type 0} {eq : K → K → Bool} (laws : IsEquivalence eq) where
  pub distinct-front : (xs ys : List K) → IsDistinct eq (xs ++ ys) → IsDistinct eq xs
  unfolding IsDistinct
  distinct-front [] ys d = tt
  distinct-front (x ∷ xs) ys d = (all-front (λ y. eq x y ≡ false) xs ys d.0, distinct-front xs ys d.1)

  -- what the second list has the first hasn't
  none-before : (xs ys : List K) (k : K) (j : ℕ) → IsDistinct eq (xs ++ ys) → position (eq k) ys ≡ Some j →
      position (eq k) xs ≡ None
  none-before xs ys k j d found = by (position (eq k) xs) refl
    where
      by : (o : Option ℕ) → position (eq k) xs ≡ o → position (eq k) xs ≡ None
      by None h = h
      by (Some i) h =
          let a = position-Some (eq k) xs i k h in
          let b = position-Some (eq k) ys j k found in
          let apart : eq (get_or xs i k) (get_or ys j k) ≡ false =
          (λ z. eq (sym (get_or_append_left xs ys k i a.0) z) (sym (get_or-append-add xs ys j k) z))
          ∙ apart_from_distinct eq (xs ++ ys) i (length xs + j) k d (omega (arith, a.0))
          (omega (arith, b.0, length-append xs ys)) in
          absurd (true≢false (sym b.1 ∙ laws.congr k (get_or xs i k) (get_or ys j k) a.1 ∙ apart))

  -- so what is found in the second list is found in both, behind the first
  pub position-after : (xs ys : List K) (k : K) (j : ℕ) → IsDistinct eq (xs ++ ys) → position (eq k) ys ≡ Some j →
      position (eq k) (xs ++ ys) ≡ Some (length xs + j)
  position-after xs ys k j d found =
      position-behind (eq k) xs ys (none-before xs ys k j d found) ∙ ap (option_map (λ n. length xs + n)) found

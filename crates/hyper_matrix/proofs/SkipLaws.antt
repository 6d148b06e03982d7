-- The cells of a list in order from a place on.
use Rattle.std.proofs.Common.{◌≡◌, ℕ, suc, ◌≤◌, Bool, true, false, not, cond, T, List}
use Rattle.std.proofs.Common.{[], ◌∷◌, ◌++◌, length, sym, ◌∙◌, ap, refl, arith}
use Rattle.std.specs.FinMap.{is_sorted}
use Rattle.std.specs.FinMap.Entries.{is_sorted-where_key}
use Rattle.std.proofs.lemmas.List.Elements.{filter-append}
use Rattle.hyper_matrix.specs.Counts.{Place, place_cmp}
use Rattle.hyper_matrix.specs.Places.{Less, AllPlaces}
use Rattle.hyper_matrix.specs.Search.{is_before, cells_from}
use Rattle.hyper_matrix.proofs.CountLaws.{T_first}
use Rattle.hyper_matrix.proofs.PlaceOrderLaws.{all_map, to_all}
use Rattle.hyper_matrix.proofs.LookUpLaws.{AllBefore, as_true, before_trans}

-- each cell is at a place or behind it
abbrev pub AllFrom : Place → List (Place × ℕ) → Type 0
AllFrom q es = AllPlaces (λ p. is_before p q ≡ false) es

pub from-append : (q : Place) (xs ys : List (Place × ℕ)) → cells_from q (xs ++ ys) ≡ cells_from q xs ++ cells_from q ys
from-append q xs ys = filter-append (λ (e : Place × ℕ). not (is_before e.0 q)) xs ys

pub none_from : (q : Place) (xs : List (Place × ℕ)) → AllBefore q xs → cells_from q xs ≡ []
none_from q [] h = refl
none_from q (x ∷ xs) h = ap (λ b. cond (not b) (x ∷ cells_from q xs) (cells_from q xs)) h.0 ∙ none_from q xs h.1

pub all_from : (q : Place) (xs : List (Place × ℕ)) → AllFrom q xs → cells_from q xs ≡ xs
all_from q [] h = refl
all_from q (x ∷ xs) h = ap (λ b. cond (not b) (x ∷ cells_from q xs) (cells_from q xs)) h.0 ∙
    ap (λ (l : List (Place × ℕ)). x ∷ l) (all_from q xs h.1)

-- what stands behind a cell that isn't before a place isn't before it either
pub still_behind : (p r q : Place) → Less p r → is_before p q ≡ false → is_before r q ≡ false
still_behind p r q less behind = turn (is_before r q) refl
  where
    turn : (b : Bool) → is_before r q ≡ b → b ≡ false
    turn false e = refl
    turn true e = sym (before_trans p r q (as_true _ less) e) ∙ behind

-- where it has none, nothing but what follows counts
pub follows_none : (q : Place) (xs ys : List (Place × ℕ)) → cells_from q xs ≡ [] →
    cells_from q (xs ++ ys) ≡ cells_from q ys
follows_none q xs ys none = from-append q xs ys ∙ ap (λ (l : List (Place × ℕ)). l ++ cells_from q ys) none

-- a list in order that begins at a place or behind it
pub begins_from : (q : Place) (x : Place × ℕ) (xs : List (Place × ℕ)) → T (is_sorted place_cmp (x ∷ xs)) →
    is_before x.0 q ≡ false → cells_from q (x ∷ xs) ≡ x ∷ xs
begins_from q x xs sorted h = all_from q (x ∷ xs) (
  h,
  all_map (Less x.0) (λ p. is_before p q ≡ false) (λ p less. still_behind x.0 p q less h) xs
      (to_all x.0 xs (T_first _ _ sorted)),
)

-- what is left of a list in order is in order, and isn't longer
pub sorted_from : (q : Place) (es : List (Place × ℕ)) → T (is_sorted place_cmp es) →
    T (is_sorted place_cmp (cells_from q es))
sorted_from q es sorted = is_sorted-where_key place_cmp (λ p. not (is_before p q)) es sorted

pub fewer_from : (q : Place) (es : List (Place × ℕ)) → length (cells_from q es) ≤ length es
fewer_from q [] = omega arith
fewer_from q (x ∷ es) = elim (is_before x.0 q) as
    (λ t. length (cond (not t) (x ∷ cells_from q es) (cells_from q es)) ≤ suc (length es)) [
      | true ↦ omega (arith, fewer_from q es)
      | false ↦ omega (arith, fewer_from q es)
    ]

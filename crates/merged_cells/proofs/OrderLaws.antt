-- The order of places, as heaps test it.
use Rattle.std.proofs.Common.{◌≡◌, ◌<◌, true, false, T, List, [], ◌∷◌, length, get_or, Ordering, sym, ◌∙◌, ap}
use Rattle.std.proofs.Common.{subst, refl, arith}
use Rattle.std.specs.List.{AllByRecursion, All}
use Rattle.std.specs.List.Sorted.{IsPermutation}
use Rattle.std.specs.Ordering.{is_lt, is_gt, ordering_reverse}
use Rattle.std.proofs.lemmas.Bool.{false≢true}
use Rattle.std.proofs.lemmas.Cmp.{upto}
use Rattle.std.proofs.lemmas.List.Elements.{All-head, All-tail, All-cons}
use Rattle.std.proofs.lemmas.List.Sorted.{All-permutation}
use Rattle.hyper_matrix.specs.Counts.{Place, place_cmp}
use Rattle.hyper_matrix.proofs.CountLaws.{places_total}

reversed : (r : Ordering) → is_lt (ordering_reverse r) ≡ is_gt r
reversed Ordering.Less = refl
reversed Ordering.Equal = refl
reversed Ordering.Greater = refl

pub turned : (p q : Place) → is_gt (place_cmp p q) ≡ is_lt (place_cmp q p)
turned p q = sym (ap is_lt (places_total.antisymm q p) ∙ reversed (place_cmp p q))

-- p is not behind q, nor q behind r
pub not_before : (p q r : Place) → is_lt (place_cmp q p) ≡ false → is_lt (place_cmp r q) ≡ false →
    is_lt (place_cmp r p) ≡ false
not_before p q r a b = sym (turned p r) ∙ upto places_total p q r (turned p q ∙ a) (turned q r ∙ b)

greater_not_less : (r : Ordering) → is_gt r ≡ true → is_lt r ≡ false
greater_not_less Ordering.Less e = absurd (false≢true e)
greater_not_less Ordering.Equal e = refl
greater_not_less Ordering.Greater e = refl

pub behind_not_before : (p q : Place) → is_gt (place_cmp p q) ≡ true → is_lt (place_cmp p q) ≡ false
behind_not_before p q e = greater_not_less (place_cmp p q) e

less_not_greater : (r : Ordering) → T (is_lt r) → is_gt r ≡ false
less_not_greater Ordering.Less h = refl
less_not_greater Ordering.Equal h = absurd h
less_not_greater Ordering.Greater h = absurd h

pub before_not_behind : (p q : Place) → T (is_lt (place_cmp p q)) → is_lt (place_cmp q p) ≡ false
before_not_behind p q h = sym (turned p q) ∙ less_not_greater (place_cmp p q) h

module _ {X : Type 0} (P : X → Type 0) where
  to_all : (xs : List X) → AllByRecursion P xs → All P xs
  to_all [] h = λ k d below. absurd (omega arith)
  to_all (x ∷ xs) h = All-cons P x xs h.0 (to_all xs h.1)

  of_all : (xs : List X) → All P xs → AllByRecursion P xs
  of_all [] h = tt
  of_all (x ∷ xs) h = (All-head P x xs h, of_all xs (All-tail P x xs h))

  -- what holds of each element holds in any order
  pub all_permuted : (xs ys : List X) → IsPermutation xs ys → AllByRecursion P xs → AllByRecursion P ys
  all_permuted xs ys same h = of_all ys (All-permutation P xs ys same (to_all xs h))

  pub first_of_all : (xs : List X) (x : X) → 0 < length xs → x ≡ get_or xs 0 x → AllByRecursion P xs → P x
  first_of_all [] x some is h = absurd (omega arith)
  first_of_all (y ∷ ys) x some is h = subst P (sym is) h.0

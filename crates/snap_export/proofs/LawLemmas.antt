-- What several snapshots have at each place.
use Rattle.std.proofs.Common.{◌≡◌, ℕ, zero, suc, ◌+◌, List, [], ◌∷◌, map, Option, Some, None, refl, sym, ◌∙◌, ap}
use Rattle.std.proofs.Common.{arith, sum_by, zero-add}
use Rattle.std.proofs.lemmas.List.Sums.{sum_by-cons}
use Rattle.std.proofs.lemmas.List.Sorted.{sum_by-IsPermutation, IsPermutation-map}
use Rattle.std.specs.FinMap.{get, get-empty}
use Rattle.std.specs.List.Sorted.{IsPermutation}
use Rattle.hyper_matrix.specs.Counts.{Place, place_cmp, plus}
use Rattle.hyper_matrix.proofs.CountLaws.{get-ewise_add, same_counts}
use Rattle.batch_store.specs.Accepted.{summed}
use Rattle.batch_store.specs.Books.{accepted_in}
use Rattle.snap_file.specs.Snapshots.{Saved}
use Rattle.snap_export.specs.Several.{added_up, at_place, added_options}

pub each_place : (xs : List Saved) (p : Place) → get (added_up xs) p ≡ added_options (map (at_place p) xs)
each_place [] p = get-empty place_cmp p
each_place (x ∷ xs) p =
    get-ewise_add (summed (accepted_in x.list)) (added_up xs) p ∙ ap (plus (at_place p x)) (each_place xs p)

-- how many of them have an entry, and what their counts come to
abbrev one : Option ℕ → ℕ
one None = 0
one (Some n) = 1

abbrev count : Option ℕ → ℕ
count None = 0
count (Some n) = n

abbrev told : ℕ → ℕ → Option ℕ
told zero n = None
told (suc k) n = Some n

none_counted : (os : List (Option ℕ)) → sum_by one os ≡ 0 → sum_by count os ≡ 0
none_counted [] h = refl
none_counted (None ∷ os) h =
    omega (arith, sum_by-cons count None os, none_counted os (omega (arith, h, sum_by-cons one None os)))
none_counted (Some n ∷ os) h = absurd (omega (arith, h, sum_by-cons one (Some n) os))

-- one option more, in front of others
more : (o : Option ℕ) (k m : ℕ) → (k ≡ 0 → m ≡ 0) → plus o (told k m) ≡ told (one o + k) (count o + m)
more None k m h = ap (λ (x : ℕ). told x m) (sym (zero-add k)) ∙ ap (told (0 + k)) (sym (zero-add m))
more (Some n) zero m h = some_more n m (h refl)
  where
    some_more : (n m : ℕ) → m ≡ 0 → Some n ≡ Some (n + m)
    some_more n m e = let same : n ≡ n + m = omega (arith, e) in (λ i. Some (same i))
more (Some n) (suc k) m h = told_some n k m
  where
    told_some : (n k m : ℕ) → Some (n + m) ≡ told (1 + suc k) (n + m)
    told_some n k m = let later : suc (suc k) ≡ 1 + suc k = omega arith in (λ i. told (later i) (n + m))

added_is : (os : List (Option ℕ)) → added_options os ≡ told (sum_by one os) (sum_by count os)
added_is [] = refl
added_is (o ∷ os) =
    ap (plus o) (added_is os) ∙ more o (sum_by one os) (sum_by count os) (none_counted os)
    ∙ ap (λ (k : ℕ). told k (count o + sum_by count os)) (sym (sum_by-cons one o os))
    ∙ ap (told (sum_by one (o ∷ os))) (sym (sum_by-cons count o os))

pub any_order : (xs ys : List Saved) → IsPermutation xs ys → added_up ys ≡ added_up xs
any_order xs ys h = same_counts _ _ (λ p.
    let moved = IsPermutation-map (at_place p) xs ys h in
    each_place ys p ∙ added_is (map (at_place p) ys)
    ∙ ap (λ k. told k (sum_by count (map (at_place p) ys))) (sum_by-IsPermutation one _ _ moved)
    ∙ ap (told (sum_by one (map (at_place p) xs))) (sum_by-IsPermutation count _ _ moved)
    ∙ sym (each_place xs p ∙ added_is (map (at_place p) xs)))

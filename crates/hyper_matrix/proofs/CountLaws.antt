-- The laws of the sum, of what a list builds, of the total and of parts.
use Rattle.std.proofs.Common.{◌≡◌, ℕ, zero, suc, ◌+◌, ◌%◌, ◌<◌, Bool, true, false, cond, T, eqb, ltb, inl, inr, ◌&&◌}
use Rattle.std.proofs.Common.{List, [], ◌∷◌, ◌++◌, Option, Some, None, Ordering, sym, ◌∙◌, ap, subst, refl, arith}
use Rattle.std.specs.Prelude.{unwrap_or}
use Rattle.std.specs.Ordering.{nat_cmp, eq_by_cmp, is_eq, is_lt}
use Rattle.std.specs.Cmp.{IsTotalOrder}
use Rattle.std.proofs.lemmas.Cmp.{on_total, then_total, nat_cmp_total}
use Rattle.std.proofs.lemmas.Map.Lookups.{CmpEqualImpliesEq, exact_pairs, exact_unsigned}
use Rattle.std.specs.FinMap.{empty, get, insert, entries, find, is_sorted, get-insert, get-empty, get-entries}
use Rattle.std.specs.FinMap.{get-retain_keys, entries_sorted, entries-insert, same_map, from_sorted, get-from_sorted}
use Rattle.std.specs.FinMap.{entries-from_sorted}
use Rattle.std.specs.FinMap.Entries.{below_all, by_order, put}
use Rattle.std.proofs.lemmas.Bool.{false≢true, cases_order, lt-ltb, le-ltb, eq-eqb, ne_eqb}
use Rattle.hyper_matrix.specs.Counts.{Place, place_cmp, Counts, count_at, add_at, add_all, ewise_add, built, count_sum}
use Rattle.hyper_matrix.specs.Counts.{total, in_part, part, plus, parts}

pub places_total : IsTotalOrder place_cmp
places_total = then_total (on_total (λ (p : Place). p.0) nat_cmp_total) (on_total (λ (p : Place). p.1) nat_cmp_total)

pub exact_places : CmpEqualImpliesEq place_cmp
exact_places = exact_pairs nat_cmp nat_cmp exact_unsigned exact_unsigned

-- maps that answer alike at each place are one
pub same_counts : (a b : Counts) → ((q : Place) → get a q ≡ get b q) → a ≡ b
same_counts a b = same_map places_total exact_places a b

pub plus-none : (x : Option ℕ) → plus x None ≡ x
plus-none None = refl
plus-none (Some x) = refl

pub plus_comm : (x y : Option ℕ) → plus x y ≡ plus y x
plus_comm None y = sym (plus-none y)
plus_comm (Some x) None = refl
plus_comm (Some x) (Some y) = ap (λ n. Some n) (omega arith)

pub plus_assoc : (x y z : Option ℕ) → plus (plus x y) z ≡ plus x (plus y z)
plus_assoc None y z = refl
plus_assoc (Some x) None z = refl
plus_assoc (Some x) (Some y) None = refl
plus_assoc (Some x) (Some y) (Some z) = ap (λ n. Some n) (omega arith)

-- one entry, seen from the place q
abbrev pub alone : Place → Place × ℕ → Option ℕ
alone q e = cond (eq_by_cmp place_cmp q e.0) (Some e.1) None

-- all counts of a list at the place q
abbrev pub gathered : Place → List (Place × ℕ) → Option ℕ
gathered q [] = None
gathered q (e ∷ es) = plus (alone q e) (gathered q es)

added_to : (o : Option ℕ) (n : ℕ) → Some (unwrap_or o 0 + n) ≡ plus o (Some n)
added_to None n = ap (λ x. Some x) (omega arith)
added_to (Some x) n = refl

pub T_first : (a b : Bool) → T (a && b) → T a
T_first true b p = tt
T_first false b p = p

pub T_second : (a b : Bool) → T (a && b) → T b
T_second true b p = p
T_second false b p = absurd p

pub T_both : (a b : Bool) → T a → T b → T (a && b)
T_both true b p q = q
T_both false b p q = p

pub is_less : (r : Ordering) → T (is_lt r) → r ≡ Ordering.Less
is_less Ordering.Less h = refl
is_less Ordering.Equal h = absurd h
is_less Ordering.Greater h = absurd h

pub less_not_equal : (r : Ordering) → T (is_lt r) → is_eq r ≡ false
less_not_equal Ordering.Less h = refl
less_not_equal Ordering.Equal h = absurd h
less_not_equal Ordering.Greater h = absurd h

-- a place below each place of a list is not found in it
pub find_below : (q : Place) (es : List (Place × ℕ)) → T (below_all place_cmp q es) → find place_cmp q es ≡ None
find_below q [] h = refl
find_below q (e ∷ es) h = ap (λ b. cond b (Some e.1) (find place_cmp q es)) (less_not_equal _ (T_first _ _ h)) ∙
    find_below q es (T_second _ _ h)

pub tied : (q p : Place) → eq_by_cmp place_cmp q p ≡ true → q ≡ p
tied q p e = exact_places q p (is_equal (place_cmp q p) e)
  where
    is_equal : (r : Ordering) → is_eq r ≡ true → r ≡ Ordering.Equal
    is_equal Ordering.Less e = absurd (false≢true e)
    is_equal Ordering.Equal e = refl
    is_equal Ordering.Greater e = absurd (false≢true e)

pub get-add_at : (m : Counts) (p : Place) (n : ℕ) (q : Place) → get (add_at m p n) q ≡ plus (get m q) (alone q (p, n))
unfolding add_at
get-add_at m p n q = get-insert places_total m p (count_at m p + n) q ∙ step (eq_by_cmp place_cmp q p) refl
  where
    step : (b : Bool) → eq_by_cmp place_cmp q p ≡ b → cond b (Some (count_at m p + n)) (get m q) ≡
        plus (get m q) (cond b (Some n) None)
    step true e = ap (λ (r : Place). Some (count_at m r + n)) (sym (tied q p e)) ∙ added_to (get m q) n
    step false e = sym (plus-none (get m q))

pub get-add_all : (m : Counts) (es : List (Place × ℕ)) (q : Place) →
    get (add_all m es) q ≡ plus (get m q) (gathered q es)
get-add_all m [] q = sym (plus-none (get m q))
get-add_all m (e ∷ es) q = get-add_all (add_at m e.0 e.1) es q ∙
    ap (λ o. plus o (gathered q es)) (get-add_at m e.0 e.1 q) ∙ plus_assoc (get m q) (alone q e) (gathered q es)

pub gathered-append : (q : Place) (es fs : List (Place × ℕ)) →
    gathered q (es ++ fs) ≡ plus (gathered q es) (gathered q fs)
gathered-append q [] fs = refl
gathered-append q (e ∷ es) fs = ap (plus (alone q e)) (gathered-append q es fs) ∙
    sym (plus_assoc (alone q e) (gathered q es) (gathered q fs))

-- in a list whose places rise, what is gathered at a place is what is found there
pub gathered-rising : (q : Place) (es : List (Place × ℕ)) → T (is_sorted place_cmp es) →
    gathered q es ≡ find place_cmp q es
gathered-rising q [] h = refl
gathered-rising q (e ∷ es) h = step (gathered-rising q es (T_second _ _ h)) (eq_by_cmp place_cmp q e.0) refl
  where
    step : gathered q es ≡ find place_cmp q es → (b : Bool) → eq_by_cmp place_cmp q e.0 ≡ b →
        plus (cond b (Some e.1) None) (gathered q es) ≡ cond b (Some e.1) (find place_cmp q es)
    step rest false t = rest
    step rest true t = ap (plus (Some e.1)) (rest ∙ find_below q es
        (subst (λ p. T (below_all place_cmp p es)) (sym (tied q e.0 t)) (T_first _ _ h)))

pub get-ewise_add : (a b : Counts) (q : Place) → get (ewise_add a b) q ≡ plus (get a q) (get b q)
unfolding ewise_add
get-ewise_add a b q = get-add_all a (entries b) q ∙ ap (plus (get a q))
    (gathered-rising q (entries b) (entries_sorted b) ∙ sym (get-entries b q))

pub get-built : (es : List (Place × ℕ)) (q : Place) → get (built es) q ≡ gathered q es
unfolding built
get-built es q = get-add_all empty es q ∙ ap (λ o. plus o (gathered q es)) (get-empty place_cmp q)

pub ewise_add_comm : (a b : Counts) → ewise_add a b ≡ ewise_add b a
ewise_add_comm a b = same_counts _ _ (λ q. get-ewise_add a b q ∙ plus_comm (get a q) (get b q) ∙
    sym (get-ewise_add b a q))

pub ewise_add_assoc : (a b c : Counts) → ewise_add (ewise_add a b) c ≡ ewise_add a (ewise_add b c)
ewise_add_assoc a b c = same_counts _ _ (λ q.
    get-ewise_add (ewise_add a b) c q ∙ ap (λ o. plus o (get c q)) (get-ewise_add a b q) ∙
    plus_assoc (get a q) (get b q) (get c q)
    ∙ sym (get-ewise_add a (ewise_add b c) q ∙ ap (plus (get a q)) (get-ewise_add b c q)))

pub ewise_add-empty : (a : Counts) → ewise_add a empty ≡ a
ewise_add-empty a = same_counts _ _ (λ q. get-ewise_add a empty q ∙ ap (plus (get a q)) (get-empty place_cmp q) ∙
    plus-none (get a q))

pub built-append : (es fs : List (Place × ℕ)) → built (es ++ fs) ≡ ewise_add (built es) (built fs)
built-append es fs = same_counts _ _ (λ q.
    get-built (es ++ fs) q ∙ gathered-append q es fs
    ∙ sym (get-ewise_add (built es) (built fs) q ∙ ap (λ o. plus o (get (built fs) q)) (get-built es q) ∙
    ap (plus (gathered q es)) (get-built fs q)))

empty_entries : entries (empty {X = ℕ} {R = place_cmp}) ≡ []
empty_entries = ap entries (same_counts empty (from_sorted [])
    (λ q. get-empty place_cmp q ∙ sym (get-from_sorted place_cmp [] q tt))) ∙ entries-from_sorted place_cmp [] tt

-- what is below p is below whatever p is above
below_less : (p r : Place) (es : List (Place × ℕ)) → place_cmp p r ≡ Ordering.Less → T (below_all place_cmp r es) →
    T (below_all place_cmp p es)
below_less p r [] t h = tt
below_less p r (e ∷ es) t h = T_both _ _ (subst (λ o. T (is_lt o))
    (sym (places_total.trans p r e.0 t (is_less _ (T_first _ _ h)))) tt) (below_less p r es t (T_second _ _ h))

-- a count put at a place comes in the place of what stood there
sum-put : (p : Place) (v : ℕ) (es : List (Place × ℕ)) → T (is_sorted place_cmp es) →
    count_sum (put place_cmp p v es) + unwrap_or (find place_cmp p es) 0 ≡ count_sum es + v
sum-put p v [] h = omega arith
sum-put p v (e ∷ es) h = step (sum-put p v es (T_second _ _ h)) (place_cmp p e.0) refl
  where
    step : count_sum (put place_cmp p v es) + unwrap_or (find place_cmp p es) 0 ≡ count_sum es + v → (r : Ordering) →
        place_cmp p e.0 ≡ r → count_sum (by_order r ((p, v) ∷ e ∷ es) ((e.0, v) ∷ es) (e ∷ put place_cmp p v es)) +
        unwrap_or (cond (is_eq r) (Some e.1) (find place_cmp p es)) 0 ≡ (e.1 + count_sum es) + v
    step rest Ordering.Less t =
        let none : find place_cmp p es ≡ None = find_below p es (below_less p e.0 es t (T_first _ _ h)) in
        let sums : (v + (e.1 + count_sum es)) + 0 ≡ (e.1 + count_sum es) + v = omega arith in
        rw none sums
    step rest Ordering.Equal t = let sums : (v + count_sum es) + e.1 ≡ (e.1 + count_sum es) + v = omega arith in sums
    step rest Ordering.Greater t =
        let sums : (e.1 + count_sum (put place_cmp p v es)) + unwrap_or (find place_cmp p es) 0 ≡
        (e.1 + count_sum es) + v = omega (arith, rest) in
        sums

pub total-add_at : (m : Counts) (p : Place) (n : ℕ) → total (add_at m p n) ≡ total m + n
unfolding total add_at
total-add_at m p n =
    let is_put : count_sum (entries (insert m p (count_at m p + n))) ≡
    count_sum (put place_cmp p (count_at m p + n) (entries m)) = ap count_sum
    (entries-insert places_total m p (count_at m p + n)) in
    let found : count_at m p ≡ unwrap_or (find place_cmp p (entries m)) 0 = ap (λ o. unwrap_or o 0) (get-entries m p) in
    omega (arith, sum-put p (count_at m p + n) (entries m) (entries_sorted m))

pub total-add_all : (m : Counts) (es : List (Place × ℕ)) → total (add_all m es) ≡ total m + count_sum es
total-add_all m [] = omega arith
total-add_all m (e ∷ es) = omega (arith, total-add_all (add_at m e.0 e.1) es, total-add_at m e.0 e.1)

pub total-empty : total empty ≡ 0
unfolding total
total-empty = ap count_sum empty_entries

pub total-ewise_add : (a b : Counts) → total (ewise_add a b) ≡ total a + total b
unfolding ewise_add total
total-ewise_add a b = total-add_all a (entries b)

pub total-built : (es : List (Place × ℕ)) → total (built es) ≡ count_sum es
unfolding built
total-built es = omega (arith, total-add_all empty es, total-empty)

pub get-part : (m : Counts) (s k : ℕ) (q : Place) → get (part m s k) q ≡ cond (in_part s k q) (get m q) None
unfolding part
get-part m s k q = get-retain_keys m (in_part s k) q (λ x same. ap (in_part s k) (sym (exact_places q x same)))

next_part : (r n : ℕ) (g : Option ℕ) → plus (cond (ltb r n) g None) (cond (eqb r n) g None) ≡
    cond (ltb r (suc n)) g None
next_part r n g = elim (cases_order r n) [
  | inl same ↦ rw (le-ltb r n (omega arith), eq-eqb r n same, lt-ltb r (suc n) (omega arith)) refl
  | inr (inl below) ↦ rw (lt-ltb r n below, ne_eqb r n (λ e. omega arith), lt-ltb r (suc n) (omega arith)) (plus-none g)
  | inr (inr above) ↦ rw (le-ltb r n (omega arith), ne_eqb r n (λ e. omega arith), le-ltb r (suc n) (omega arith)) refl
]

pub get-parts : (m : Counts) (n k : ℕ) (q : Place) → get (parts m n k) q ≡ cond (ltb (q.0 % k) n) (get m q) None
get-parts m zero k q = get-empty place_cmp q ∙ sym (ap (λ b. cond b (get m q) None) (le-ltb (q.0 % k) 0 (omega arith)))
get-parts m (suc n) k q =
    get-ewise_add (parts m n k) (part m n k) q
    ∙ ap (λ o. plus o (get (part m n k) q)) (get-parts m n k q)
    ∙ ap (plus (cond (ltb (q.0 % k) n) (get m q) None)) (get-part m n k q)
    ∙ next_part (q.0 % k) n (get m q)

pub parts_whole : (m : Counts) (k : ℕ) → 0 < k → parts m k k ≡ m
parts_whole m k h = same_counts _ _ (λ q. get-parts m k k q ∙
    ap (λ b. cond b (get m q) None) (lt-ltb (q.0 % k) k (omega arith)))

-- There is one top of rows of which each stands once: what lists in any order have in common is how many of their
-- elements pass each test.
use Rattle.std.proofs.Common.{◌≡◌, ℕ, ◌+◌, ◌<◌, ◌≤◌, ◌&&◌, ◌||◌, Bool, true, false, not, cond, eqb, ltb, leb, List}
use Rattle.std.proofs.Common.{suc, [], ◌∷◌, ◌++◌, length, get_or, refl, sym, ◌∙◌, ap, subst, inl, inr, arith}
use Rattle.std.specs.Prelude.{All}
use Rattle.std.specs.List.{AllByRecursion, count_by}
use Rattle.std.proofs.lemmas.Bool.{cases_Bool, cases_eq, eqb-true, eq-eqb, ne_eqb, lt-ltb, le-leb, ltb-true, leb-true}
use Rattle.std.proofs.lemmas.Bool.{and_parts, and_from, and_right, or_left, or_right, or_cases, not_from_true}
use Rattle.std.proofs.lemmas.Bool.{not-false, false≢true}
use Rattle.std.proofs.lemmas.List.Elements.{All-nil, All-cons, All-head, All-tail, All-append, All-weaker}
use Rattle.std.proofs.lemmas.List.Sorted.{sum_by-IsPermutation}
use Rattle.std.proofs.lemmas.List.Sums.{sum_by-cons}
use Rattle.cell_queries.specs.declared.tally.RowTally.{RowTally}
use Rattle.cell_queries.specs.declared.top.TopBy.{TopBy}
use Rattle.cell_queries.specs.Rows.{RowsRise}
use Rattle.cell_queries.specs.Tops.{number_of, IsAhead, AreRanked, IsTop}

-- as many pass each test
abbrev AreAlike : List RowTally → List RowTally → Type 0
AreAlike xs ys = (p : RowTally → Bool) → count_by p xs ≡ count_by p ys

-- each row stands once
abbrev StandOnce : List RowTally → Type 0
StandOnce xs = (r : ℕ) → count_by (λ x. eqb x.row r) xs ≤ 1

one_more : (p : RowTally → Bool) (x : RowTally) (xs : List RowTally) →
    count_by p (x ∷ xs) ≡ cond (p x) 1 0 + count_by p xs
one_more p x xs = sum_by-cons (λ y. cond (p y) 1 0) x xs

-- none passes a test that each fails, and who stands among those of which none passes it fails it
none_passes : (p : RowTally → Bool) (xs : List RowTally) → All (λ x. p x ≡ false) xs → count_by p xs ≡ 0
none_passes p [] h = refl
none_passes p (x ∷ xs) h =
    one_more p x xs ∙ ap (λ b. cond b 1 0 + count_by p xs) (All-head (λ y. p y ≡ false) x xs h)
    ∙ ap (λ n. 0 + n) (none_passes p xs (All-tail (λ y. p y ≡ false) x xs h))

first_fails : (p : RowTally → Bool) (x : RowTally) (xs : List RowTally) → count_by p (x ∷ xs) ≡ 0 → p x ≡ false
first_fails p x xs h = elim (cases_Bool (p x)) [
  | inl passes ↦
      let some : cond {A = ℕ} (p x) 1 0 ≡ 1 = ap (λ b. cond b 1 0) passes in absurd (omega (arith, one_more p x xs))
  | inr fails ↦ fails
]

fewer_pass : (p q : RowTally → Bool) → ((x : RowTally) → p x ≡ true → q x ≡ true) → (xs : List RowTally) →
    count_by p xs ≤ count_by q xs
fewer_pass p q f [] = omega arith
fewer_pass p q f (x ∷ xs) = elim (cases_Bool (p x)) [
  | inl passes ↦
      let one : cond {A = ℕ} (p x) 1 0 ≡ 1 = ap (λ b. cond b 1 0) passes in
      let too : cond {A = ℕ} (q x) 1 0 ≡ 1 = ap (λ b. cond b 1 0) (f x passes) in
      omega (arith, one_more p x xs, one_more q x xs, fewer_pass p q f xs)
  | inr fails ↦
      let none : cond {A = ℕ} (p x) 1 0 ≡ 0 = ap (λ b. cond b 1 0) fails in
      omega (arith, one_more p x xs, one_more q x xs, fewer_pass p q f xs)
]

-- whether a row is ahead of another
abbrev is_ahead : TopBy → RowTally → RowTally → Bool
is_ahead by t u = ltb (number_of by u) (number_of by t) || (eqb (number_of by t) (number_of by u) && leb t.row u.row)

ahead_passes : (by : TopBy) (t u : RowTally) → IsAhead by t u → is_ahead by t u ≡ true
ahead_passes by t u (inl more) = or_left (ltb (number_of by u) (number_of by t))
    (eqb (number_of by t) (number_of by u) && leb t.row u.row) (lt-ltb (number_of by u) (number_of by t) more)
ahead_passes by t u (inr tie) = or_right (ltb (number_of by u) (number_of by t))
    (eqb (number_of by t) (number_of by u) && leb t.row u.row)
    (and_from (eqb (number_of by t) (number_of by u)) (leb t.row u.row) (eq-eqb (number_of by t) (number_of by u) tie.0)
    (le-leb t.row u.row tie.1))

passes_ahead : (by : TopBy) (t u : RowTally) → is_ahead by t u ≡ true → IsAhead by t u
passes_ahead by t u e = elim (or_cases (ltb (number_of by u) (number_of by t))
    (eqb (number_of by t) (number_of by u) && leb t.row u.row) e) [
      | inl more ↦ inl (ltb-true (number_of by u) (number_of by t) more)
      | inr tie ↦
          let parts = and_parts (eqb (number_of by t) (number_of by u)) (leb t.row u.row) tie in
          inr (eqb-true (number_of by t) (number_of by u) parts.0, leb-true t.row u.row parts.1)
    ]

one_row : (by : TopBy) (t u : RowTally) → IsAhead by t u → IsAhead by u t → u.row ≡ t.row
one_row by t u (inl a) (inl b) = absurd (omega (arith, a, b))
one_row by t u (inl a) (inr b) = absurd (omega (arith, a, b.0))
one_row by t u (inr a) (inl b) = absurd (omega (arith, a.0, b))
one_row by t u (inr a) (inr b) = omega (arith, a.1, b.1)

-- a row of a list that is ahead of each is ahead of the first of a list like it
ahead_of_first : (by : TopBy) (t u : RowTally) (xs ys : List RowTally) → AreAlike xs (u ∷ ys) → All (IsAhead by t) xs →
    IsAhead by t u
ahead_of_first by t u xs ys alike all =
    let none : count_by (λ x. not (is_ahead by t x)) xs ≡ 0 =
    none_passes (λ x. not (is_ahead by t x)) xs (All-weaker (IsAhead by t) (λ x. not (is_ahead by t x) ≡ false)
    (λ x h. not_from_true (is_ahead by t x) (ahead_passes by t x h)) xs all) in
    passes_ahead by t u (not-false (is_ahead by t u)
    (first_fails (λ x. not (is_ahead by t x)) u ys (sym (alike (λ x. not (is_ahead by t x))) ∙ none)))

-- a row with another's number that differs from it
abbrev differs : RowTally → RowTally → Bool
differs t x = eqb x.row t.row && not (eqb x.entries t.entries && eqb x.total t.total)

-- of lists that are alike, each row of which stands once, first rows with one number are one
first_is_one : (t u : RowTally) (xs ys : List RowTally) → AreAlike (t ∷ xs) (u ∷ ys) → StandOnce (t ∷ xs) →
    u.row ≡ t.row → u ≡ t
first_is_one t u xs ys alike once same =
    let mine : eqb t.row t.row ≡ true = eq-eqb t.row t.row refl in
    let one : cond {A = ℕ} (eqb t.row t.row) 1 0 ≡ 1 = ap (λ b. cond b 1 0) mine in
    let rest : count_by (λ x. eqb x.row t.row) xs ≡ 0 =
    omega (arith, once t.row, one_more (λ x. eqb x.row t.row) t xs) in
    let few : count_by (differs t) xs ≤ count_by (λ x. eqb x.row t.row) xs =
    fewer_pass (differs t) (λ x. eqb x.row t.row)
    (λ x h. (and_parts (eqb x.row t.row) (not (eqb x.entries t.entries && eqb x.total t.total)) h).0) xs in
    let itself : differs t t ≡ false =
    and_right (eqb t.row t.row) (not (eqb t.entries t.entries && eqb t.total t.total))
    (not_from_true (eqb t.entries t.entries && eqb t.total t.total) (and_from (eqb t.entries t.entries)
    (eqb t.total t.total) (eq-eqb t.entries t.entries refl) (eq-eqb t.total t.total refl))) in
    let none : cond {A = ℕ} (differs t t) 1 0 ≡ 0 = ap (λ b. cond b 1 0) itself in
    let all : count_by (differs t) (t ∷ xs) ≡ 0 = omega (arith, one_more (differs t) t xs) in
    let no : differs t u ≡ false = first_fails (differs t) u ys (sym (alike (differs t)) ∙ all) in
    let alike_too : (eqb u.entries t.entries && eqb u.total t.total) ≡ true =
    equal (eqb u.row t.row) (eqb u.entries t.entries && eqb u.total t.total) (eq-eqb u.row t.row same) no in
    let parts = and_parts (eqb u.entries t.entries) (eqb u.total t.total) alike_too in
    let entries : u.entries ≡ t.entries = eqb-true u.entries t.entries parts.0 in
    let totals : u.total ≡ t.total = eqb-true u.total t.total parts.1 in
    (λ i. record { row = same i; entries = entries i; total = totals i })
  where
    equal : (a b : Bool) → a ≡ true → (a && not b) ≡ false → b ≡ true
    equal true true e h = refl
    equal true false e h = absurd (false≢true (sym h))
    equal false b e h = absurd (false≢true e)

rest_alike : (t u : RowTally) (xs ys : List RowTally) → AreAlike (t ∷ xs) (u ∷ ys) → u ≡ t → AreAlike xs ys
rest_alike t u xs ys alike same p =
    let one : cond {A = ℕ} (p u) 1 0 ≡ cond {A = ℕ} (p t) 1 0 = ap (λ x. cond (p x) 1 0) same in
    omega (arith, alike p, one_more p t xs, one_more p u ys)

rest_once : (t : RowTally) (xs : List RowTally) → StandOnce (t ∷ xs) → StandOnce xs
rest_once t xs once r = omega (arith, once r, one_more (λ x. eqb x.row r) t xs)

ahead_trans : (by : TopBy) (t u v : RowTally) → IsAhead by t u → IsAhead by u v → IsAhead by t v
ahead_trans by t u v (inl a) (inl b) = inl (omega (arith, a, b))
ahead_trans by t u v (inl a) (inr b) = inl (omega (arith, a, b.0))
ahead_trans by t u v (inr a) (inl b) = inl (omega (arith, a.0, b))
ahead_trans by t u v (inr a) (inr b) = inr (a.0 ∙ b.0, omega (arith, a.1, b.1))

rest_ranked : (by : TopBy) (t : RowTally) (ts : List RowTally) → AreRanked by (t ∷ ts) → AreRanked by ts
rest_ranked by t ts h k d below =
    subst (λ (n : ℕ). IsAhead by (get_or ts k d) (get_or (t ∷ ts) n d)) {x = suc k + 1} {y = suc (k + 1)} (omega arith)
    (h (suc k) d (omega (arith, below)))

-- the first of ranked rows is ahead of each
all_behind : (by : TopBy) (t : RowTally) (ts : List RowTally) → AreRanked by (t ∷ ts) → All (IsAhead by t) ts
all_behind by t [] h = All-nil (IsAhead by t)
all_behind by t (u ∷ us) h =
    let first : IsAhead by t u = h 0 t (omega arith) in
    All-cons (IsAhead by t) u us first (All-weaker (IsAhead by u) (IsAhead by t)
    (λ v b. ahead_trans by t u v first b) us (all_behind by u us (rest_ranked by t (u ∷ us) h)))

first_of_all : (by : TopBy) (t : RowTally) (ts rest : List RowTally) → AreRanked by (t ∷ ts) →
    All (λ x. All (IsAhead by x) rest) (t ∷ ts) → All (IsAhead by t) (t ∷ (ts ++ rest))
first_of_all by t ts rest ranked ahead =
    All-cons (IsAhead by t) t (ts ++ rest) (inr (refl, omega arith))
    (All-append (IsAhead by t) ts rest (all_behind by t ts ranked)
    (All-head (λ x. All (IsAhead by x) rest) t ts ahead))

same_tops : (by : TopBy) (a ra b rb : List RowTally) → AreAlike (a ++ ra) (b ++ rb) → StandOnce (a ++ ra) →
    AreRanked by a → All (λ x. All (IsAhead by x) ra) a → AreRanked by b → All (λ x. All (IsAhead by x) rb) b →
    length a ≡ length b → a ≡ b
same_tops by [] ra [] rb alike once ranked ahead ranked' ahead' long = refl
same_tops by [] ra (u ∷ b) rb alike once ranked ahead ranked' ahead' long = absurd (omega arith)
same_tops by (t ∷ a) ra [] rb alike once ranked ahead ranked' ahead' long = absurd (omega arith)
same_tops by (t ∷ a) ra (u ∷ b) rb alike once ranked ahead ranked' ahead' long =
    let first : IsAhead by t u =
    ahead_of_first by t u (t ∷ (a ++ ra)) (b ++ rb) alike (first_of_all by t a ra ranked ahead) in
    let second : IsAhead by u t =
    ahead_of_first by u t (u ∷ (b ++ rb)) (a ++ ra) (λ p. sym (alike p)) (first_of_all by u b rb ranked' ahead') in
    let same : u ≡ t = first_is_one t u (a ++ ra) (b ++ rb) alike once (one_row by t u first second) in
    let tails : a ≡ b =
    same_tops by a ra b rb (rest_alike t u (a ++ ra) (b ++ rb) alike same) (rest_once t (a ++ ra) once)
    (rest_ranked by t a ranked) (All-tail (λ x. All (IsAhead by x) ra) t a ahead) (rest_ranked by u b ranked')
    (All-tail (λ x. All (IsAhead by x) rb) u b ahead') (omega (arith, long)) in
    (λ i. sym same i ∷ tails i)

-- rows that rise stand once
above_none : (r : ℕ) (ts : List RowTally) → AllByRecursion (λ u. r < u.row) ts → count_by (λ x. eqb x.row r) ts ≡ 0
above_none r [] h = refl
above_none r (t ∷ ts) h =
    let none : cond {A = ℕ} (eqb t.row r) 1 0 ≡ 0 =
    ap (λ b. cond b 1 0) (ne_eqb t.row r (λ same. omega (arith, same, h.0))) in
    omega (arith, one_more (λ x. eqb x.row r) t ts, above_none r ts h.1)

stand_once : (ts : List RowTally) → RowsRise ts → StandOnce ts
stand_once [] h r = omega arith
stand_once (t ∷ ts) h r = elim (cases_eq t.row r) [
  | inl same ↦
      let here : cond {A = ℕ} (eqb t.row r) 1 0 ≡ 1 = ap (λ b. cond b 1 0) (eq-eqb t.row r same) in
      let behind : count_by (λ x. eqb x.row r) ts ≡ 0 =
      above_none r ts (subst (λ (n : ℕ). AllByRecursion (λ u. n < u.row) ts) same h.0) in
      omega (arith, one_more (λ x. eqb x.row r) t ts)
  | inr other ↦
      let none : cond {A = ℕ} (eqb t.row r) 1 0 ≡ 0 = ap (λ b. cond b 1 0) (ne_eqb t.row r other) in
      omega (arith, one_more (λ x. eqb x.row r) t ts, stand_once ts h.1 r)
]

pub one_top : (by : TopBy) (most : ℕ) (rows a b : List RowTally) → RowsRise rows → IsTop by most rows a →
    IsTop by most rows b → a ≡ b
one_top by most rows a b rise top other =
    same_tops by a top.rest b other.rest
    (λ p. sum_by-IsPermutation (λ x. cond (p x) 1 0) rows (a ++ top.rest) top.all
    ∙ sym (sum_by-IsPermutation (λ x. cond (p x) 1 0) rows (b ++ other.rest) other.all))
    (λ r. omega (
      arith,
      stand_once rows rise r,
      sum_by-IsPermutation (λ x. cond (eqb x.row r) 1 0) rows
          (a ++ top.rest) top.all,
    ))
    top.ranked top.ahead other.ranked other.ahead (top.long ∙ sym other.long)

-- How many rows have how many entries, as one row more is counted, and the ranges as they are listed.
use Rattle.std.proofs.Common.{◌≡◌, ℕ, zero, suc, ◌+◌, ◌*◌, ◌-◌, ◌^◌, ◌<◌, ◌≤◌, Bool, true, false, cond, leb, eqb, ◌&&◌}
use Rattle.std.proofs.Common.{List, [], ◌∷◌, ◌++◌, length, get_or, set, refl, sym, ◌∙◌, ap, subst, inl, inr, arith}
use Rattle.std.proofs.Common.{get_or-set_other, append_assoc, replicate}
use Rattle.std.proofs.lemmas.List.{append-nil}
use Rattle.std.proofs.lemmas.Grind.{get_or-set_at}
use Rattle.std.proofs.Math.Nat.{pow-suc, pow-le-pow_right}
use Rattle.std.proofs.lemmas.Bool.{cases_order, cases_eq, le-leb, lt-leb, and_from, and_left, and_right, eq-eqb, ne_eqb}
use Rattle.std.proofs.lemmas.List.Sums.{sum_by-cons}
use Rattle.cell_queries.specs.declared.tally.RowTally.{RowTally}
use Rattle.cell_queries.specs.declared.degrees.Degree.{Degree}
use Rattle.cell_queries.specs.Degrees.{rows_between, degree, degrees_from, degrees_of, listed_at, AreCounts}

-- how many rows have so many entries that the number has k bits behind its first
abbrev pub rows_at : ℕ → List RowTally → ℕ
rows_at k ts = rows_between (2 ^ k) (2 * 2 ^ k - 1) ts

-- the counts so far, and the rows that are left
abbrev pub AreCounted : List RowTally → List RowTally → List ℕ → Type 0
AreCounted all left counts = (k : ℕ) → k < 64 → get_or counts k 0 + rows_at k left ≡ rows_at k all

abbrev is_between : ℕ → ℕ → RowTally → Bool
is_between low high t = leb low t.entries && leb t.entries high

doubled : (j k : ℕ) → j < k → 2 * 2 ^ j ≤ 2 ^ k
doubled j k less =
    let more : 2 ^ suc j ≤ 2 ^ k = pow-le-pow_right {n = 2} (omega arith) {i = suc j} {j = k} (omega (arith, less)) in
    omega (arith, more, pow-suc 2 j)

some_power : (k : ℕ) → 1 ≤ 2 ^ k
some_power k = pow-le-pow_right {n = 2} (omega arith) {i = 0} {j = k} (omega arith)

-- a row with k bits behind the first of its number of entries is counted at k, and at no other
at_its_own : (k : ℕ) (t : RowTally) → 2 ^ k ≤ t.entries → t.entries < 2 * 2 ^ k →
    is_between (2 ^ k) (2 * 2 ^ k - 1) t ≡ true
at_its_own k t low high =
    and_from (leb (2 ^ k) t.entries) (leb t.entries (2 * 2 ^ k - 1)) (le-leb (2 ^ k) t.entries low)
    (le-leb t.entries (2 * 2 ^ k - 1) (omega (arith, high)))

at_no_lower : (j k : ℕ) (t : RowTally) → j < k → 2 ^ k ≤ t.entries → is_between (2 ^ j) (2 * 2 ^ j - 1) t ≡ false
at_no_lower j k t less low = and_right (leb (2 ^ j) t.entries) (leb t.entries (2 * 2 ^ j - 1))
    (lt-leb t.entries (2 * 2 ^ j - 1) (omega (arith, doubled j k less, some_power j, low)))

at_no_higher : (j k : ℕ) (t : RowTally) → k < j → t.entries < 2 * 2 ^ k → is_between (2 ^ j) (2 * 2 ^ j - 1) t ≡ false
at_no_higher j k t more high = and_left (leb (2 ^ j) t.entries) (leb t.entries (2 * 2 ^ j - 1))
    (lt-leb (2 ^ j) t.entries (omega (arith, doubled k j more, high)))

one_more : (k : ℕ) (t : RowTally) (ts : List RowTally) → is_between (2 ^ k) (2 * 2 ^ k - 1) t ≡ true →
    rows_at k (t ∷ ts) ≡ 1 + rows_at k ts
one_more k t ts e = sum_by-cons (λ u. cond (is_between (2 ^ k) (2 * 2 ^ k - 1) u) 1 0) t ts
    ∙ ap (λ b. cond b 1 0 + rows_at k ts) e

none_more : (k : ℕ) (t : RowTally) (ts : List RowTally) → is_between (2 ^ k) (2 * 2 ^ k - 1) t ≡ false →
    rows_at k (t ∷ ts) ≡ 0 + rows_at k ts
none_more k t ts e = sum_by-cons (λ u. cond (is_between (2 ^ k) (2 * 2 ^ k - 1) u) 1 0) t ts
    ∙ ap (λ b. cond b 1 0 + rows_at k ts) e

pub counted_more : (all ts : List RowTally) (t : RowTally) (counts : List ℕ) (k n : ℕ) →
    AreCounted all (t ∷ ts) counts → k < length counts → 2 ^ k ≤ t.entries → t.entries < 2 * 2 ^ k →
    n ≡ get_or counts k 0 + 1 → AreCounted all ts (set counts k n)
counted_more all ts t counts k n before within low high is j below = elim (cases_order j k) [
  | inl same ↦
      let here : get_or (set counts k n) j 0 ≡ n = get_or-set_at counts k j n 0 same within in
      let old : get_or counts k 0 ≡ get_or counts j 0 = ap (λ i. get_or counts i 0) (sym same) in
      let one : rows_at j (t ∷ ts) ≡ 1 + rows_at j ts =
      one_more j t ts (subst (λ i. is_between (2 ^ i) (2 * 2 ^ i - 1) t ≡ true) (sym same) (at_its_own k t low high)) in
      omega (arith, before j below)
  | inr (inl less) ↦
      let here : get_or (set counts k n) j 0 ≡ get_or counts j 0 =
      get_or-set_other counts k j n 0 (λ same. omega (arith, same, less)) in
      let none : rows_at j (t ∷ ts) ≡ 0 + rows_at j ts = none_more j t ts (at_no_lower j k t less low) in
      omega (arith, before j below)
  | inr (inr more) ↦
      let here : get_or (set counts k n) j 0 ≡ get_or counts j 0 =
      get_or-set_other counts k j n 0 (λ same. omega (arith, same, more)) in
      let none : rows_at j (t ∷ ts) ≡ 0 + rows_at j ts = none_more j t ts (at_no_higher j k t more high) in
      omega (arith, before j below)
]

pub counted_none : (all : List RowTally) (counts : List ℕ) → ((k : ℕ) → get_or counts k 0 ≡ 0) →
    AreCounted all all counts
counted_none all counts none k below = ap (λ n. n + rows_at k all) (none k) ∙ omega arith

pub counted_all : (all : List RowTally) (counts : List ℕ) → AreCounted all [] counts → AreCounts all counts
counted_all all counts h k below = omega (arith, h k below)

-- the ranges that are listed, and those that are still to be
pub listed_none : (ts : List RowTally) → degrees_from 64 (2 ^ 0) ts ≡ degrees_of ts
listed_none ts = refl

next_range : (n low : ℕ) (ts : List RowTally) → degrees_from (suc n) low ts ≡
    cond (eqb (rows_between low (2 * low - 1) ts) 0) (degrees_from n (2 * low) ts)
    (degree low ts ∷ degrees_from n (2 * low) ts)
unfolding degrees_from
next_range n low ts = refl

range_at : (k : ℕ) (ts : List RowTally) → k < 64 → degrees_from (64 - k) (2 ^ k) ts ≡
    cond (eqb (rows_at k ts) 0) (degrees_from (64 - (k + 1)) (2 ^ (k + 1)) ts)
    (degree (2 ^ k) ts ∷ degrees_from (64 - (k + 1)) (2 ^ (k + 1)) ts)
range_at k ts below =
    let same : 2 ^ (k + 1) ≡ 2 ^ suc k = ap (λ n. 2 ^ n) {x = k + 1} {y = suc k} (omega arith) in
    let twice : 2 * 2 ^ k ≡ 2 ^ (k + 1) = omega (arith, same, pow-suc 2 k) in
    ap (λ n. degrees_from n (2 ^ k) ts) {x = 64 - k} {y = suc (64 - (k + 1))} (omega (arith, below))
    ∙ next_range (64 - (k + 1)) (2 ^ k) ts
    ∙ ap (λ m. cond (eqb (rows_at k ts) 0) (degrees_from (64 - (k + 1)) m ts)
    (degree (2 ^ k) ts ∷ degrees_from (64 - (k + 1)) m ts)) twice

abbrev degree_at : ℕ → ℕ → ℕ → Degree
degree_at first last rows = record { first = first; last = last; rows = rows }

pub listed_some : (list : List Degree) (ts : List RowTally) (k rows : ℕ) (whole : List Degree) → k < 64 →
    rows ≡ rows_at k ts → 0 < rows → list ++ degrees_from (64 - k) (2 ^ k) ts ≡ whole →
    (list ++ (record { first = 2 ^ k; last = 2 ^ k + (2 ^ k - 1); rows = rows }) ∷ []) ++
    degrees_from (64 - (k + 1)) (2 ^ (k + 1)) ts ≡ whole
listed_some list ts k rows whole below is some h =
    let behind : List Degree = degrees_from (64 - (k + 1)) (2 ^ (k + 1)) ts in
    let last : 2 ^ k + (2 ^ k - 1) ≡ 2 * 2 ^ k - 1 = omega (arith, some_power k) in
    let same : degree_at (2 ^ k) (2 ^ k + (2 ^ k - 1)) rows ≡ degree (2 ^ k) ts =
    (λ i. degree_at (2 ^ k) (last i) (is i)) in
    append_assoc list (degree_at (2 ^ k) (2 ^ k + (2 ^ k - 1)) rows ∷ []) behind
    ∙ ap (λ d. list ++ d ∷ behind) same
    ∙ ap (λ ds. list ++ ds) (sym (range_at k ts below
    ∙ ap (λ b. cond b behind (degree (2 ^ k) ts ∷ behind))
    (ne_eqb (rows_at k ts) 0 (λ none. omega (arith, none, is, some)))))
    ∙ h

pub listed_other : (list : List Degree) (ts : List RowTally) (k rows : ℕ) (whole : List Degree) → k < 64 →
    rows ≡ rows_at k ts → rows ≡ 0 → list ++ degrees_from (64 - k) (2 ^ k) ts ≡ whole →
    list ++ degrees_from (64 - (k + 1)) (2 ^ (k + 1)) ts ≡ whole
listed_other list ts k rows whole below is none h =
    let behind : List Degree = degrees_from (64 - (k + 1)) (2 ^ (k + 1)) ts in
    ap (λ ds. list ++ ds) (sym (range_at k ts below
    ∙ ap (λ b. cond b behind (degree (2 ^ k) ts ∷ behind)) (eq-eqb (rows_at k ts) 0 (sym is ∙ none))))
    ∙ h

-- nothing is listed of a range without a row, and else the range
pub listed_nothing : (list : List Degree) (k rows : ℕ) → rows ≡ 0 → list ++ listed_at k rows ≡ list
listed_nothing list k rows none =
    ap (λ b. list ++ cond b [] (degree_at (2 ^ k) (2 ^ k + (2 ^ k - 1)) rows ∷ [])) (eq-eqb rows 0 none)
    ∙ append-nil list

pub listed_one : (list : List Degree) (k rows : ℕ) → (rows ≡ 0 → ⊥) → list ++ listed_at k rows ≡
    list ++ (record { first = 2 ^ k; last = 2 ^ k + (2 ^ k - 1); rows = rows }) ∷ []
listed_one list k rows some =
    ap (λ b. list ++ cond b [] (degree_at (2 ^ k) (2 ^ k + (2 ^ k - 1)) rows ∷ [])) (ne_eqb rows 0 some)

-- what was listed of one range more, and of all
pub listed_more : (list new : List Degree) (ts : List RowTally) (k rows : ℕ) (whole : List Degree) → k < 64 →
    rows ≡ rows_at k ts → new ≡ list ++ listed_at k rows → list ++ degrees_from (64 - k) (2 ^ k) ts ≡ whole →
    new ++ degrees_from (64 - (k + 1)) (2 ^ (k + 1)) ts ≡ whole
listed_more list new ts k rows whole below is told h = elim (cases_eq rows 0) [
  | inl none ↦
      let empty : listed_at k rows ≡ [] =
      ap (λ b. cond b [] (degree_at (2 ^ k) (2 ^ k + (2 ^ k - 1)) rows ∷ [])) (eq-eqb rows 0 none) in
      ap (λ ds. ds ++ degrees_from (64 - (k + 1)) (2 ^ (k + 1)) ts)
      (told ∙ ap (λ ds. list ++ ds) empty ∙ append-nil list)
      ∙ listed_other list ts k rows whole below is none h
  | inr some ↦
      let one : listed_at k rows ≡ degree_at (2 ^ k) (2 ^ k + (2 ^ k - 1)) rows ∷ [] =
      ap (λ b. cond b [] (degree_at (2 ^ k) (2 ^ k + (2 ^ k - 1)) rows ∷ [])) (ne_eqb rows 0 some) in
      let pos : 0 < rows = above rows some in
      ap (λ ds. ds ++ degrees_from (64 - (k + 1)) (2 ^ (k + 1)) ts) (told ∙ ap (λ ds. list ++ ds) one)
      ∙ listed_some list ts k rows whole below is pos h
]
  where
    above : (n : ℕ) → (n ≡ 0 → ⊥) → 0 < n
    above zero h = absurd (h refl)
    above (suc n) h = omega arith

no_ranges : (n low : ℕ) (ts : List RowTally) → n ≡ 0 → degrees_from n low ts ≡ []
unfolding degrees_from
no_ranges zero low ts e = refl
no_ranges (suc n) low ts e = absurd (omega arith)

pub listed_all : (list : List Degree) (ts : List RowTally) (k : ℕ) (whole : List Degree) → 64 ≤ k →
    list ++ degrees_from (64 - k) (2 ^ k) ts ≡ whole → list ≡ whole
listed_all list ts k whole done h =
    sym (append-nil list) ∙ ap (λ ds. list ++ ds) (sym (no_ranges (64 - k) (2 ^ k) ts (omega (arith, done)))) ∙ h

-- before the first row is counted
zero_at : (n k : ℕ) → get_or {A = ℕ} (replicate n 0) k 0 ≡ 0
zero_at zero k = refl
zero_at (suc n) zero = refl
zero_at (suc n) (suc k) = zero_at n k

pub counted_begun : (all left : List RowTally) → left ≡ all → AreCounted all left (replicate 64 0)
counted_begun all left same k below =
    ap (λ n. n + rows_at k left) (zero_at 64 k) ∙ ap (λ ts. 0 + rows_at k ts) same ∙ omega arith

pub counted_next : (all left ts : List RowTally) (t : RowTally) (counts : List ℕ) (k n : ℕ) →
    AreCounted all left counts → left ≡ t ∷ ts → k < length counts → 2 ^ k ≤ t.entries → t.entries < 2 * 2 ^ k →
    n ≡ get_or counts k 0 + 1 → AreCounted all ts (set counts k n)
counted_next all left ts t counts k n before is within low high one =
    counted_more all ts t counts k n (subst (λ (us : List RowTally). AreCounted all us counts) is before) within low
    high one

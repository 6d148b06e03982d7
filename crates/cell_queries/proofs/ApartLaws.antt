-- Matrices whose rows a test tells apart: the rows of their sum are those of the one and of the other.
use Rattle.std.proofs.Common.{◌≡◌, ℕ, ◌+◌, ◌<◌, ◌≤◌, ◌%◌, T, Bool, true, false, cond, not, ltb, List, [], ◌∷◌, ◌++◌}
use Rattle.std.proofs.Common.{Option, Some, None, refl, sym, ◌∙◌, ap, subst, inl, inr, arith}
use Rattle.std.specs.List.{AllByRecursion, filter}
use Rattle.std.specs.List.Sorted.{IsPermutation}
use Rattle.std.specs.FinMap.{get, entries, is_sorted, entries_sorted, get-entries, get-from_sorted, from_sorted}
use Rattle.std.specs.FinMap.{entries-from_sorted}
use Rattle.std.specs.FinMap.Entries.{find, find-where_key, is_sorted-where_key}
use Rattle.std.proofs.lemmas.Bool.{cases_Bool, cases_eq, false≢true, lt-ltb, le-ltb}
use Rattle.std.proofs.lemmas.List.Elements.{All-append, All-from_recursion, recursion_from_All}
use Rattle.std.proofs.lemmas.List.Sorted.{IsPermutation-filter_both, IsPermutation-sym, All-permutation}
use Rattle.std.specs.Ordering.{eq_by_cmp}
use Rattle.hyper_matrix.specs.Counts.{Place, place_cmp, Counts, plus, ewise_add}
use Rattle.hyper_matrix.proofs.CountLaws.{exact_places, same_counts, get-ewise_add, plus-none, ewise_add_comm, tied}
use Rattle.hyper_matrix.proofs.CountLaws.{T_second}
use Rattle.cell_queries.specs.declared.tally.RowTally.{RowTally}
use Rattle.cell_queries.specs.declared.top.TopBy.{TopBy}
use Rattle.cell_queries.specs.Heaps.{Leading, AreLed}
use Rattle.cell_queries.specs.Rows.{RowsRise, HasRow}
use Rattle.cell_queries.specs.Shards.{LieInShard, LieBelow}
use Rattle.cell_queries.specs.Tallies.{tally, joined, tallies}
use Rattle.cell_queries.proofs.RowLaws.{all_rows, not_lower, rows_rise, rows_told, weaker}
use Rattle.cell_queries.proofs.TallyLaws.{same_row, other_row}
use Rattle.cell_queries.proofs.TopLaws.{led_in_any_order}

abbrev rows_where : (ℕ → Bool) → List RowTally → List RowTally
rows_where p ts = filter (λ t. p t.row) ts

abbrev cells_where : (ℕ → Bool) → List (Place × ℕ) → List (Place × ℕ)
cells_where p es = filter (λ e. p e.0.0) es

-- a row before all others stays apart
joined_apart : (t : RowTally) (us : List RowTally) → AllByRecursion (λ u. t.row < u.row) us → joined t us ≡ t ∷ us
joined_apart t [] h = refl
joined_apart t (u ∷ us) h = other_row t u us (λ same. omega (arith, same, h.0))

all_where : (p : ℕ → Bool) (Q : RowTally → Type 0) (us : List RowTally) → AllByRecursion Q us →
    AllByRecursion Q (rows_where p us)
all_where p Q [] h = tt
all_where p Q (u ∷ us) h = elim (cases_Bool (p u.row)) [
  | inl passes ↦ subst (AllByRecursion Q) (ap (λ b. cond b (u ∷ rows_where p us) (rows_where p us)) (sym passes))
      (h.0, all_where p Q us h.1)
  | inr fails ↦ subst (AllByRecursion Q) (ap (λ b. cond b (u ∷ rows_where p us) (rows_where p us)) (sym fails))
      (all_where p Q us h.1)
]

row_passes : (p : ℕ → Bool) (t : RowTally) (us : List RowTally) → p t.row ≡ true →
    rows_where p (t ∷ us) ≡ t ∷ rows_where p us
row_passes p t us e = ap (λ b. cond b (t ∷ rows_where p us) (rows_where p us)) e

row_fails : (p : ℕ → Bool) (t : RowTally) (us : List RowTally) → p t.row ≡ false →
    rows_where p (t ∷ us) ≡ rows_where p us
row_fails p t us e = ap (λ b. cond b (t ∷ rows_where p us) (rows_where p us)) e

joined_passes : (p : ℕ → Bool) (t : RowTally) (us : List RowTally) → p t.row ≡ true →
    AllByRecursion (λ u. t.row ≤ u.row) us → RowsRise us → rows_where p (joined t us) ≡ joined t (rows_where p us)
joined_passes p t [] e from rise = row_passes p t [] e
joined_passes p t (u ∷ us) e from rise = elim (cases_eq u.row t.row) [
  | inl same ↦
      let both : RowTally = tally t.row (t.entries + u.entries) (t.total + u.total) in
      ap (rows_where p) (same_row t u us same) ∙ row_passes p both us e
      ∙ sym (ap (joined t) (row_passes p u us (ap p same ∙ e)) ∙ same_row t u (rows_where p us) same)
  | inr other ↦
      let less : t.row < u.row = above from.0 other in
      let all : AllByRecursion (λ v. t.row < v.row) (u ∷ us) =
      (less, weaker (λ v. u.row < v.row) (λ v. t.row < v.row) (λ v h. omega (arith, h, less)) us rise.0) in
      ap (rows_where p) (other_row t u us other) ∙ row_passes p t (u ∷ us) e
      ∙ sym (joined_apart t (rows_where p (u ∷ us)) (all_where p (λ v. t.row < v.row) (u ∷ us) all))
]
  where
    above : t.row ≤ u.row → (u.row ≡ t.row → ⊥) → t.row < u.row
    above le differ = omega (arith, le, differ)

joined_fails : (p : ℕ → Bool) (t : RowTally) (us : List RowTally) → p t.row ≡ false →
    rows_where p (joined t us) ≡ rows_where p us
joined_fails p t [] e = row_fails p t [] e
joined_fails p t (u ∷ us) e = elim (cases_eq u.row t.row) [
  | inl same ↦
      let both : RowTally = tally t.row (t.entries + u.entries) (t.total + u.total) in
      ap (rows_where p) (same_row t u us same) ∙ row_fails p both us e ∙ sym (row_fails p u us (ap p same ∙ e))
  | inr other ↦ ap (rows_where p) (other_row t u us other) ∙ row_fails p t (u ∷ us) e
]

-- the rows that pass are those of the cells whose row passes
tallies_where : (p : ℕ → Bool) (es : List (Place × ℕ)) → T (is_sorted place_cmp es) →
    rows_where p (tallies es) ≡ tallies (cells_where p es)
tallies_where p [] h = refl
tallies_where p (e ∷ es) h = elim (cases_Bool (p e.0.0)) [
  | inl passes ↦
      joined_passes p t (tallies es) passes (all_rows (λ r. e.0.0 ≤ r) es (not_lower e es h))
      (rows_rise es (T_second _ _ h)) ∙ ap (joined t) (tallies_where p es (T_second _ _ h))
      ∙ ap (λ b. tallies (cond b (e ∷ cells_where p es) (cells_where p es))) (sym passes)
  | inr fails ↦
      joined_fails p t (tallies es) fails ∙ tallies_where p es (T_second _ _ h)
      ∙ ap (λ b. tallies (cond b (e ∷ cells_where p es) (cells_where p es))) (sym fails)
]
  where
    t : RowTally
    t = tally e.0.0 1 e.1

-- what holds of all rows holds of the row of each cell
holds_of_row : (Q : ℕ → Type 0) (r : ℕ) (ts : List RowTally) → HasRow r ts → AllByRecursion (λ t. Q t.row) ts → Q r
holds_of_row Q r [] has h = absurd has
holds_of_row Q r (t ∷ ts) (inl same) h = subst Q same h.0
holds_of_row Q r (t ∷ ts) (inr has) h = holds_of_row Q r ts has h.1

holds_of_cells : (Q : ℕ → Type 0) (ts : List RowTally) (es : List (Place × ℕ)) →
    AllByRecursion (λ e. HasRow e.0.0 ts) es → AllByRecursion (λ t. Q t.row) ts → AllByRecursion (λ e. Q e.0.0) es
holds_of_cells Q ts [] has h = tt
holds_of_cells Q ts (e ∷ es) has h = (holds_of_row Q e.0.0 ts has.0 h, holds_of_cells Q ts es has.1 h)

-- where each cell answers b, no place that doesn't has one
none_there : (p : ℕ → Bool) (b : Bool) (q : Place) (es : List (Place × ℕ)) → AllByRecursion (λ e. p e.0.0 ≡ b) es →
    (p q.0 ≡ b → ⊥) → find place_cmp q es ≡ None
none_there p b q [] h other = refl
none_there p b q (e ∷ es) h other = elim (cases_Bool (eq_by_cmp place_cmp q e.0)) [
  | inl same ↦ absurd (other (ap (λ (x : Place). p x.0) (tied q e.0 same) ∙ h.0))
  | inr differ ↦
      ap (λ t. cond t (Some e.1) (find place_cmp q es)) differ ∙ none_there p b q es h.1 other
]

abbrev kept : (ℕ → Bool) → Counts → Counts → List (Place × ℕ)
kept p a b = cells_where p (entries (ewise_add a b))

abbrev kept_map : (ℕ → Bool) → Counts → Counts → Counts
kept_map p a b = from_sorted (kept p a b)

-- the cells of a sum whose row passes are those of the one, where no row of the other does
cells_apart : (p : ℕ → Bool) (a b : Counts) → AllByRecursion (λ e. p e.0.0 ≡ true) (entries a) →
    AllByRecursion (λ e. p e.0.0 ≡ false) (entries b) → kept p a b ≡ entries a
cells_apart p a b passing failing =
    sym (ap entries (same_counts a (kept_map p a b) at) ∙ entries-from_sorted place_cmp (kept p a b) sorted)
  where
    sorted : T (is_sorted place_cmp (kept p a b))
    sorted = is_sorted-where_key place_cmp (λ q. p q.0) (entries (ewise_add a b)) (entries_sorted (ewise_add a b))

    one : (q : Place) (t : Bool) → p q.0 ≡ t → get a q ≡ cond t (plus (get a q) (get b q)) None
    one q true e =
        sym (ap (plus (get a q)) (get-entries b q ∙ none_there p false q (entries b) failing
        (λ f. false≢true (sym f ∙ e))) ∙ plus-none (get a q))
    one q false e = get-entries a q ∙ none_there p true q (entries a) passing (λ t. false≢true (sym e ∙ t))

    at : (q : Place) → get a q ≡ get (kept_map p a b) q
    at q =
        one q (p q.0) refl
        ∙ ap (λ (o : Option ℕ). cond (p q.0) o None) (sym (get-ewise_add a b q) ∙ get-entries (ewise_add a b) q)
        ∙ sym (get-from_sorted place_cmp (kept p a b) q sorted
        ∙ find-where_key place_cmp (λ r. p r.0) q (λ x same. ap (λ (r : Place). p r.0) (sym (exact_places q x same)))
        (entries (ewise_add a b)))

rows_apart_first : (p : ℕ → Bool) (a b : Counts) → AllByRecursion (λ t. p t.row ≡ true) (tallies (entries a)) →
    AllByRecursion (λ t. p t.row ≡ false) (tallies (entries b)) →
    rows_where p (tallies (entries (ewise_add a b))) ≡ tallies (entries a)
rows_apart_first p a b passing failing =
    tallies_where p (entries (ewise_add a b)) (entries_sorted (ewise_add a b))
    ∙ ap tallies (cells_apart p a b
    (holds_of_cells (λ r. p r ≡ true) (tallies (entries a)) (entries a) (rows_told (entries a)) passing)
    (holds_of_cells (λ r. p r ≡ false) (tallies (entries b)) (entries b) (rows_told (entries b)) failing))

pub rows_apart : (p : ℕ → Bool) (a b : Counts) → AllByRecursion (λ t. p t.row ≡ true) (tallies (entries a)) →
    AllByRecursion (λ t. p t.row ≡ false) (tallies (entries b)) →
    IsPermutation (tallies (entries (ewise_add a b))) (tallies (entries a) ++ tallies (entries b))
rows_apart p a b passing failing =
    subst (λ (ts : List RowTally). IsPermutation (tallies (entries (ewise_add a b))) (ts ++ tallies (entries b)))
    (rows_apart_first p a b passing failing)
    (subst (λ (ts : List RowTally). IsPermutation (tallies (entries (ewise_add a b)))
    (rows_where p (tallies (entries (ewise_add a b))) ++ ts)) second
    (IsPermutation-filter_both (λ (t : RowTally). p t.row) (λ (t : RowTally). not (p t.row)) (λ t. refl)
    (tallies (entries (ewise_add a b)))))
  where
    second : rows_where (λ r. not (p r)) (tallies (entries (ewise_add a b))) ≡ tallies (entries b)
    second = ap (λ (m : Counts). rows_where (λ r. not (p r)) (tallies (entries m))) (ewise_add_comm a b)
        ∙ rows_apart_first (λ r. not (p r)) b a
        (weaker (λ t. p t.row ≡ false) (λ t. not (p t.row) ≡ true) (λ t e. ap not e) (tallies (entries b)) failing)
        (weaker (λ t. p t.row ≡ true) (λ t. not (p t.row) ≡ false) (λ t e. ap not e) (tallies (entries a)) passing)

-- the rows of lower shards, and those of the next
pub shard_joins : (s k : ℕ) (a b : Counts) → LieBelow s k (tallies (entries a)) →
    LieInShard s k (tallies (entries b)) →
    IsPermutation (tallies (entries (ewise_add a b))) (tallies (entries a) ++ tallies (entries b))
shard_joins s k a b below here =
    rows_apart (λ r. ltb (r % k) s) a b
    (weaker (λ t. t.row % k < s) (λ t. ltb (t.row % k) s ≡ true) (λ t h. lt-ltb (t.row % k) s h) (tallies (entries a))
    below)
    (weaker (λ t. t.row % k ≡ s) (λ t. ltb (t.row % k) s ≡ false)
    (λ t h. le-ltb (t.row % k) s (omega (arith, h))) (tallies (entries b)) here)

-- the first of both are those of the sum
pub led_joined : (by : TopBy) (most s k : ℕ) (a b : Counts) (l : Leading) → LieBelow s k (tallies (entries a)) →
    LieInShard s k (tallies (entries b)) → AreLed by most (tallies (entries a) ++ tallies (entries b)) l →
    AreLed by most (tallies (entries (ewise_add a b))) l
led_joined by most s k a b l below here led =
    led_in_any_order by most (tallies (entries a) ++ tallies (entries b)) (tallies (entries (ewise_add a b))) l
    (IsPermutation-sym (tallies (entries (ewise_add a b))) (tallies (entries a) ++ tallies (entries b))
    (shard_joins s k a b below here)) led

pub still_below : (s k : ℕ) (a b : Counts) → LieBelow s k (tallies (entries a)) →
    LieInShard s k (tallies (entries b)) → LieBelow (s + 1) k (tallies (entries (ewise_add a b)))
still_below s k a b below here =
    recursion_from_All P (tallies (entries (ewise_add a b)))
    (All-permutation P (tallies (entries a) ++ tallies (entries b)) (tallies (entries (ewise_add a b)))
    (IsPermutation-sym (tallies (entries (ewise_add a b))) (tallies (entries a) ++ tallies (entries b))
    (shard_joins s k a b below here))
    (All-append P (tallies (entries a)) (tallies (entries b))
    (All-from_recursion P (tallies (entries a))
    (weaker (λ t. t.row % k < s) P (λ t h. omega (arith, h)) (tallies (entries a)) below))
    (All-from_recursion P (tallies (entries b))
    (weaker (λ t. t.row % k ≡ s) P (λ t h. omega (arith, h)) (tallies (entries b)) here))))
  where
    P : RowTally → Type 0
    P t = t.row % k < s + 1

pub shard_more : (s k : ℕ) (ts : List RowTally) (t : RowTally) → LieInShard s k ts → t.row % k ≡ s →
    LieInShard s k (ts ++ t ∷ [])
shard_more s k [] t here is = (is, tt)
shard_more s k (u ∷ ts) t here is = (here.0, shard_more s k ts t here.1 is)

pub shard_has : (s k : ℕ) (ts us : List RowTally) (t : RowTally) → LieInShard s k (ts ++ t ∷ us) → t.row % k ≡ s
shard_has s k [] us t here = here.0
shard_has s k (u ∷ ts) us t here = shard_has s k ts us t here.1

-- Look-ups in sorted lists of cells.
use Rattle.std.proofs.Common.{◌≡◌, ℕ, ◌+◌, ◌<◌, ◌≤◌, ◌⊎◌, Bool, true, false, cond, T, eqb, List}
use Rattle.std.proofs.Common.{[], ◌∷◌, ◌++◌, length, Ordering, sym, ◌∙◌, ap}
use Rattle.std.proofs.Common.{subst, refl, inl, inr, arith, length-append}
use Rattle.std.specs.Ordering.{nat_cmp, is_lt, ordering_then}
use Rattle.std.specs.FinMap.{is_sorted}
use Rattle.std.specs.FinMap.Entries.{below_all}
use Rattle.std.specs.Cmp.{nat_cmp_is}
use Rattle.std.proofs.lemmas.Bool.{cases_order, cases_lt, ne_eqb}
use Rattle.std.proofs.lemmas.Bool.{false≢true}
use Rattle.std.proofs.lemmas.List.{append-nil}
use Rattle.std.proofs.lemmas.List.Elements.{filter-append}
use Rattle.hyper_matrix.specs.Counts.{Place, place_cmp, count_sum}
use Rattle.hyper_matrix.specs.Search.{is_before, row_cells, IsRowSum}
use Rattle.hyper_matrix.proofs.CountLaws.{places_total, T_first, T_second}
use Rattle.cells.proofs.OrderLaws.{less_place}

is_less : (r : Ordering) → is_lt r ≡ true → r ≡ Ordering.Less
is_less Ordering.Less e = refl
is_less Ordering.Equal e = absurd (false≢true e)
is_less Ordering.Greater e = absurd (false≢true e)

pub as_true : (b : Bool) → T b → b ≡ true
as_true true h = refl
as_true false h = absurd h

pub as_T : (b : Bool) → b ≡ true → T b
as_T b e = subst T (sym e) tt

pub before_trans : (p q r : Place) → is_before p q ≡ true → is_before q r ≡ true → is_before p r ≡ true
before_trans p q r a b = ap is_lt (places_total.trans p q r (is_less _ a) (is_less _ b))

pub before_row : (r c s d : ℕ) → r < s → is_before (r, c) (s, d) ≡ true
before_row r c s d h = as_true _ (less_place r c s d (inl h))

pub before_col : (r c d : ℕ) → c < d → is_before (r, c) (r, d) ≡ true
before_col r c d h = as_true _ (less_place r c r d (inr (refl, h)))

true≢false : (b : Bool) → b ≡ true → b ≡ false → ⊥
true≢false b e f = false≢true (sym f ∙ e)

-- a place that comes before another is in a row below, or in its row
pub before_le : (p q : Place) → is_before p q ≡ true → p.0 ≤ q.0
before_le p q e = elim (cases_lt q.0 p.0) [
  | inl more ↦ absurd (backwards (nat_cmp_is p.0 q.0 Ordering.Greater more))
  | inr le ↦ le
]
  where
    backwards : Ordering.Greater ≡ nat_cmp p.0 q.0 → ⊥
    backwards g = false≢true (ap (λ o. is_lt (ordering_then o (nat_cmp p.1 q.1))) g ∙ e)

pub not_before_same : (r c d : ℕ) → d ≤ c → is_before (r, c) (r, d) ≡ false
not_before_same r c d h = ap (λ o. is_lt (ordering_then o (nat_cmp c d))) (sym (nat_cmp_is r r Ordering.Equal refl)) ∙
    elim (cases_order c d) [
      | inl same ↦ ap is_lt (sym (nat_cmp_is c d Ordering.Equal same))
      | inr (inl less) ↦ absurd (omega arith)
      | inr (inr more) ↦ ap is_lt (sym (nat_cmp_is c d Ordering.Greater more))
    ]

pub not_before_row : (r c s d : ℕ) → s < r → is_before (r, c) (s, d) ≡ false
not_before_row r c s d h = ap (λ o. is_lt (ordering_then o (nat_cmp c d))) (sym (nat_cmp_is r s Ordering.Greater h))

pub before_is : (p q : Place) → is_before p q ≡ true → (p.0 < q.0) ⊎ ((p.0 ≡ q.0) × (p.1 < q.1))
before_is p q e = elim (cases_lt p.0 q.0) [
  | inl less ↦ inl less
  | inr le ↦
      let same : p.0 ≡ q.0 = omega (arith, before_le p q e) in
      elim (cases_lt p.1 q.1) [
        | inl less ↦ inr (same, less)
        | inr le ↦ absurd (true≢false _ (subst (λ (r : ℕ). is_before p (r, q.1) ≡ true) (sym same) e)
            (not_before_same p.0 p.1 q.1 le))
      ]
]

-- each cell comes before a place
abbrev pub AllBefore : Place → List (Place × ℕ) → Type 0
AllBefore q [] = Unit {0}
AllBefore q (e ∷ es) = (is_before e.0 q ≡ true) × AllBefore q es

below_last : (p : Place) (xs : List (Place × ℕ)) (e : Place × ℕ) → T (below_all place_cmp p (xs ++ e ∷ [])) →
    is_before p e.0 ≡ true
below_last p [] e h = as_true _ (T_first _ _ h)
below_last p (x ∷ xs) e h = below_last p xs e (T_second _ _ h)

all_before : (xs : List (Place × ℕ)) (e : Place × ℕ) (q : Place) → T (is_sorted place_cmp (xs ++ e ∷ [])) →
    is_before e.0 q ≡ true → AllBefore q (xs ++ e ∷ [])
all_before [] e q h b = (b, tt)
all_before (x ∷ xs) e q h b = (
  before_trans x.0 e.0 q (below_last x.0 xs e (T_first _ _ h)) b,
  all_before xs e q (T_second _ _ h) b,
)

-- a list's last cell stands at p
pub record EndsIn (es : List (Place × ℕ)) (p : Place) : Type 0 where
  pub front : List (Place × ℕ)
  pub count : ℕ
  pub is : es ≡ front ++ (p, count) ∷ []

pub ends_before : (es : List (Place × ℕ)) (p q : Place) → EndsIn es p → T (is_sorted place_cmp es) →
    is_before p q ≡ true → AllBefore q es
ends_before es p q e sorted b = subst (AllBefore q) (sym e.is)
    (all_before e.front (p, e.count) q (subst (λ (l : List (Place × ℕ)). T (is_sorted place_cmp l)) e.is sorted) b)

pub row_cells-append : (r : ℕ) (xs ys : List (Place × ℕ)) → row_cells r (xs ++ ys) ≡ row_cells r xs ++ row_cells r ys
row_cells-append r xs ys = filter-append (λ (e : Place × ℕ). eqb e.0.0 r) xs ys

pub sum-append : {K : Type 0} (xs ys : List (K × ℕ)) → count_sum (xs ++ ys) ≡ count_sum xs + count_sum ys
sum-append [] ys = omega arith
sum-append (x ∷ xs) ys = omega (arith, sum-append xs ys)

kept_one : (r : ℕ) (e : Place × ℕ) (es : List (Place × ℕ)) → (e.0.0 ≡ r → ⊥) → row_cells r (e ∷ es) ≡ row_cells r es
kept_one r e es n = ap (λ b. cond b (e ∷ row_cells r es) (row_cells r es)) (ne_eqb e.0.0 r n)

-- no cell before a row's first place is in the row
pub none_before : (r : ℕ) (es : List (Place × ℕ)) → AllBefore (r, 0) es → row_cells r es ≡ []
none_before r [] h = refl
none_before r (e ∷ es) h = kept_one r e es (λ same. true≢false _ h.0
    (subst (λ (s : ℕ). is_before e.0 (s, 0) ≡ false) same (not_before_same e.0.0 e.0.1 0 (omega arith)))) ∙
    none_before r es h.1

none_below : (r : ℕ) (p : Place) (es : List (Place × ℕ)) → r < p.0 → T (below_all place_cmp p es) → row_cells r es ≡ []
none_below r p [] h b = refl
none_below r p (e ∷ es) h b = kept_one r e es (λ same. omega (arith, before_le p e.0 (as_true _ (T_first _ _ b)))) ∙
    none_below r p es h (T_second _ _ b)

-- nor is one from a cell on that is in a row behind
pub none_behind : (r : ℕ) (e : Place × ℕ) (es : List (Place × ℕ)) → T (is_sorted place_cmp (e ∷ es)) → r < e.0.0 →
    row_cells r (e ∷ es) ≡ []
none_behind r e es sorted h = kept_one r e es (λ same. omega arith) ∙ none_below r e.0 es h (T_first _ _ sorted)

count_kept : (r : ℕ) (es : List (Place × ℕ)) → length (row_cells r es) ≤ length es
count_kept r [] = omega arith
count_kept r (e ∷ es) = elim (eqb e.0.0 r) as (λ b. length (cond b (e ∷ row_cells r es) (row_cells r es)) ≤ length
    (e ∷ es)) [ true ↦ omega (arith, count_kept r es) | false ↦ omega (arith, count_kept r es) ]

sum_kept : (r : ℕ) (es : List (Place × ℕ)) → count_sum (row_cells r es) ≤ count_sum es
sum_kept r [] = omega arith
sum_kept r (e ∷ es) = elim (eqb e.0.0 r) as (λ b. count_sum (cond b (e ∷ row_cells r es) (row_cells r es)) ≤ count_sum
    (e ∷ es)) [ true ↦ omega (arith, sum_kept r es) | false ↦ omega (arith, sum_kept r es) ]

-- they are no more than all cells
pub counted_le : (r : ℕ) (xs ys : List (Place × ℕ)) (entries total : ℕ) → IsRowSum r xs entries total →
    (entries ≤ length (xs ++ ys)) × (total ≤ count_sum (xs ++ ys))
counted_le r xs ys entries total c = (
  omega (arith, c.counted, count_kept r xs, length-append xs ys),
  omega (arith, c.summed, sum_kept r xs, sum-append xs ys),
)

pub counted_more : (r : ℕ) (xs ys : List (Place × ℕ)) (entries total : ℕ) (m n : ℕ) → IsRowSum r xs entries total →
    IsRowSum r ys m n → IsRowSum r (xs ++ ys) (entries + m) (total + n)
counted_more r xs ys entries total m n a b = record {
  counted = omega (
    arith,
    a.counted,
    b.counted,
    ap length (row_cells-append r xs ys),
    length-append (row_cells r xs) (row_cells r ys),
  );
  summed = omega (
    arith,
    a.summed,
    b.summed,
    ap count_sum (row_cells-append r xs ys),
    sum-append (row_cells r xs) (row_cells r ys),
  );
}

pub counted_none : (r : ℕ) (es : List (Place × ℕ)) → row_cells r es ≡ [] → IsRowSum r es 0 0
counted_none r es none = record { counted = sym (ap length none); summed = sym (ap count_sum none) }

-- what comes behind adds nothing
pub counted_all : (r : ℕ) (xs ys : List (Place × ℕ)) (entries total : ℕ) → IsRowSum r xs entries total →
    row_cells r ys ≡ [] → IsRowSum r (xs ++ ys) entries total
counted_all r xs ys entries total a none = record {
  counted = a.counted ∙ sym (ap length (row_cells-append r xs ys ∙
      ap (λ (l : List (Place × ℕ)). row_cells r xs ++ l) none ∙ append-nil (row_cells r xs)));
  summed = a.summed ∙ sym (ap count_sum (row_cells-append r xs ys ∙
      ap (λ (l : List (Place × ℕ)). row_cells r xs ++ l) none ∙ append-nil (row_cells r xs)));
}

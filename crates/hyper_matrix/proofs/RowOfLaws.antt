-- One row of a matrix: its entries, and what a sum does to it.
use Rattle.std.proofs.Common.{◌≡◌, ℕ, ◌+◌, Bool, true, false, cond, T, eqb, List, length, Option, None, Ordering, sym}
use Rattle.std.proofs.Common.{◌∙◌, ap, refl}
use Rattle.std.specs.FinMap.{get, entries, len, len-entries, is_sorted, get-entries, get-retain_keys, get-from_sorted}
use Rattle.std.specs.FinMap.{entries_sorted, from_sorted, entries-from_sorted}
use Rattle.std.specs.FinMap.Entries.{find-where_key, is_sorted-where_key}
use Rattle.std.proofs.lemmas.Bool.{eq-eqb, ne_eqb}
use Rattle.hyper_matrix.specs.Counts.{Place, place_cmp, Counts, plus, count_sum, total, ewise_add}
use Rattle.hyper_matrix.specs.Search.{row_cells, IsRowSum}
use Rattle.hyper_matrix.specs.RowOf.{row_of}
use Rattle.hyper_matrix.proofs.CountLaws.{exact_places, same_counts, get-ewise_add, total-ewise_add}

-- whether a place is in row r
abbrev in_row : ℕ → Place → Bool
in_row r p = eqb p.0 r

pub get-row_of : (m : Counts) (r : ℕ) (q : Place) → get (row_of m r) q ≡ cond (eqb q.0 r) (get m q) None
unfolding row_of
get-row_of m r q = get-retain_keys m (in_row r) q (λ x same. ap (in_row r) (sym (exact_places q x same)))

alike : (r : ℕ) (q x : Place) → place_cmp q x ≡ Ordering.Equal → in_row r x ≡ in_row r q
alike r q x same = ap (in_row r) (sym (exact_places q x same))

pub entries-row_of : (m : Counts) (r : ℕ) → entries (row_of m r) ≡ row_cells r (entries m)
entries-row_of m r =
    let kept = row_cells r (entries m) in
    let sorted : T (is_sorted place_cmp kept) = is_sorted-where_key place_cmp (in_row r) (entries m)
    (entries_sorted m) in
    ap entries (same_counts (row_of m r) (from_sorted kept) (λ q.
    get-row_of m r q ∙ ap (λ (o : Option ℕ). cond (eqb q.0 r) o None) (get-entries m q)
    ∙ sym (get-from_sorted place_cmp kept q sorted ∙ find-where_key place_cmp (in_row r) q (alike r q) (entries m))))
    ∙ entries-from_sorted place_cmp kept sorted

-- a row's entries counted and summed up, in a list of all entries
pub len-row_of : (m : Counts) (es : List (Place × ℕ)) (r n s : ℕ) → entries m ≡ es → IsRowSum r es n s →
    n ≡ len (row_of m r)
len-row_of m es r n s is h = h.counted ∙ sym (len-entries (row_of m r) ∙
    ap length (entries-row_of m r ∙ ap (row_cells r) is))

pub total-row_of : (m : Counts) (es : List (Place × ℕ)) (r n s : ℕ) → entries m ≡ es → IsRowSum r es n s →
    s ≡ total (row_of m r)
unfolding total
total-row_of m es r n s is h = h.summed ∙ sym (ap count_sum (entries-row_of m r ∙ ap (row_cells r) is))

-- a row of a sum is the sum of the rows
pub row_of-ewise_add : (a b : Counts) (r : ℕ) → row_of (ewise_add a b) r ≡ ewise_add (row_of a r) (row_of b r)
row_of-ewise_add a b r = same_counts _ _ (λ q.
    get-row_of (ewise_add a b) r q ∙ ap (λ (o : Option ℕ). cond (eqb q.0 r) o None) (get-ewise_add a b q)
    ∙ both (eqb q.0 r) (get a q) (get b q)
    ∙ sym (get-ewise_add (row_of a r) (row_of b r) q ∙ ap (λ (o : Option ℕ). plus o (get (row_of b r) q))
    (get-row_of a r q) ∙ ap (plus (cond (eqb q.0 r) (get a q) None)) (get-row_of b r q)))
  where
    both : (t : Bool) (x y : Option ℕ) → cond t (plus x y) None ≡ plus (cond t x None) (cond t y None)
    both true x y = refl
    both false x y = refl

pub total-row_of-sum : (a b : Counts) (r : ℕ) → total (row_of (ewise_add a b) r) ≡
    total (row_of a r) + total (row_of b r)
total-row_of-sum a b r = ap total (row_of-ewise_add a b r) ∙ total-ewise_add (row_of a r) (row_of b r)

pub get-row_of_here : (m : Counts) (r : ℕ) (q : Place) → q.0 ≡ r → get (row_of m r) q ≡ get m q
get-row_of_here m r q same = get-row_of m r q ∙ ap (λ b. cond b (get m q) None) (eq-eqb q.0 r same)

pub get-row_of_other : (m : Counts) (r : ℕ) (q : Place) → (q.0 ≡ r → ⊥) → get (row_of m r) q ≡ None
get-row_of_other m r q n = get-row_of m r q ∙ ap (λ b. cond b (get m q) None) (ne_eqb q.0 r n)

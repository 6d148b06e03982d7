-- Matrices side by side: how many entries their sum has, and the sum of two parts of them.
use Rattle.std.proofs.Common.{◌≡◌, ℕ, ◌+◌, ◌≤◌, Bool, true, false, cond, T, is_some, List, [], ◌∷◌, ◌++◌, length, take}
use Rattle.std.proofs.Common.{◌<◌, ◌^◌, drop, get_or, Some, None, sym, ◌∙◌, ap, subst, refl, arith}
use Rattle.std.specs.declared.sync.Arc.{Arc}
use Rattle.std.specs.Arc.{arc_value}
use Rattle.std.specs.Ordering.{eq_by_cmp, is_lt}
use Rattle.std.specs.FinMap.{get, len, entries, is_sorted, entries_sorted, len-insert, len-entries, len-empty, empty}
use Rattle.std.specs.FinMap.Entries.{below_all}
use Rattle.std.proofs.lemmas.Bool.{false≢true}
use Rattle.std.proofs.lemmas.List.{map-append, take-map, take-append-drop, drop_all}
use Rattle.hyper_matrix.specs.Counts.{Place, place_cmp, Counts, count_at, add_at, add_all, ewise_add, plus, total}
use Rattle.hyper_matrix.proofs.CountLaws.{places_total, get-add_at, plus-none, T_first, T_second, less_not_equal, tied}
use Rattle.hyper_matrix.proofs.CountLaws.{ewise_add-empty, ewise_add_assoc, ewise_add_comm, total-ewise_add}
use Rattle.hyper_matrix.proofs.CountLaws.{same_counts, get-built, gathered-rising, built-append}
use Rattle.hyper_matrix.proofs.SortedListLaws.{same_tie}
use Rattle.hyper_matrix.specs.Cells.{entry_of, built_of}
use Rattle.hyper_matrix.specs.Counts.{built}
use Rattle.cells.specs.declared.cell.Cell.{Cell}
use Rattle.std.specs.FinMap.{get-entries, get-empty, find}
use Rattle.std.specs.Prelude.{map}
use Rattle.hyper_matrix.specs.Matrix.{Matrix, matrix}
use Rattle.layer_compaction.specs.Shared.{content, values, all_counts, HaveDims}
use Rattle.layer_compaction.specs.Runs.{count_new}
use Rattle.layer_compaction.proofs.LayerLemmas.{empty-ewise_add}
use Rattle.layer_compaction.proofs.LayerLemmas.{content-append}

pub len-add_at : (m : Counts) (p : Place) (n : ℕ) → len (add_at m p n) ≡ cond (is_some (get m p)) 0 1 + len m
unfolding add_at
len-add_at m p n = len-insert places_total m p (count_at m p + n) ∙ step (is_some (get m p))
  where
    step : (b : Bool) → cond b (len m) (len m + 1) ≡ cond b 0 1 + len m
    step true = omega arith
    step false = omega arith

-- a place below another isn't that one
pub other : (p q : Place) → T (is_lt (place_cmp p q)) → eq_by_cmp place_cmp q p ≡ false
other p q h = step (eq_by_cmp place_cmp q p) refl
  where
    step : (b : Bool) → eq_by_cmp place_cmp q p ≡ b → b ≡ false
    step false e = refl
    step true e = absurd (false≢true (sym (less_not_equal _ (subst (λ r. T (is_lt (place_cmp p r))) (tied q p e) h))
        ∙ same_tie p))

-- what is new behind a place stays new once a count was added there
count_new-behind : (m : Counts) (p : Place) (n : ℕ) (es : List (Place × ℕ)) → T (below_all place_cmp p es) →
    count_new (add_at m p n) es ≡ count_new m es
count_new-behind m p n [] h = refl
count_new-behind m p n (e ∷ es) h =
    ap (λ o. cond (is_some o) 0 1 + count_new (add_at m p n) es) (get-add_at m p n e.0
    ∙ ap (λ b. plus (get m e.0) (cond b (Some n) None)) (other p e.0 (T_first _ _ h)) ∙ plus-none (get m e.0))
    ∙ ap (λ k. cond (is_some (get m e.0)) 0 1 + k) (count_new-behind m p n es (T_second _ _ h))

len-add_all : (m : Counts) (es : List (Place × ℕ)) → T (is_sorted place_cmp es) →
    len (add_all m es) ≡ len m + count_new m es
len-add_all m [] h = omega arith
len-add_all m (e ∷ es) h = omega (
  arith,
  len-add_all (add_at m e.0 e.1) es (T_second _ _ h),
  len-add_at m e.0 e.1,
  count_new-behind m e.0 e.1 es (T_first _ _ h),
)

-- the entries of a sum: those of the one, and those of the other that it hasn't
pub len-ewise_add : (a b : Counts) → len (ewise_add a b) ≡ len a + count_new a (entries b)
unfolding ewise_add
len-ewise_add a b = len-add_all a (entries b) (entries_sorted b)

count_new-le : (m : Counts) (es : List (Place × ℕ)) → count_new m es ≤ length es
count_new-le m [] = omega arith
count_new-le m (e ∷ es) = step (is_some (get m e.0)) (count_new-le m es)
  where
    step : (b : Bool) → count_new m es ≤ length es → cond b 0 1 + count_new m es ≤ length (e ∷ es)
    step true h = omega (arith, h)
    step false h = omega (arith, h)

-- a sum has no more entries than both together
pub len-ewise_add-le : (a b : Counts) → len (ewise_add a b) ≤ len a + len b
len-ewise_add-le a b = omega (arith, len-ewise_add a b, count_new-le a (entries b), len-entries b)

-- a map without entries is the empty one
pub no_entries : (m : Counts) → len m ≡ 0 → m ≡ empty
no_entries m none = same_counts m empty (λ q. get-entries m q
    ∙ ap (find place_cmp q) (drop_all 0 (entries m) (omega (arith, none, len-entries m)))
    ∙ sym (get-empty place_cmp q))

-- no more are new than there are
pub new_below : (m b : Counts) → count_new m (entries b) ≤ len b
new_below m b = omega (arith, count_new-le m (entries b), len-entries b)

-- one that is new
pub one_new : (m : Counts) (e : Place × ℕ) (es : List (Place × ℕ)) → is_some (get m e.0) ≡ false →
    count_new m (e ∷ es) ≡ 1 + count_new m es
one_new m e es none = ap (λ b. cond b 0 1 + count_new m es) none

-- and one that isn't
pub none_new : (m : Counts) (e : Place × ℕ) (es : List (Place × ℕ)) → is_some (get m e.0) ≡ true →
    count_new m (e ∷ es) ≡ 0 + count_new m es
none_new m e es held = ap (λ b. cond b 0 1 + count_new m es) held

-- beside nothing all are new
pub all_new : {Z : Type 0} (before : List (Arc Matrix Z)) (b : Counts) → length before ≡ 0 →
    len b ≡ count_new (content (all_counts (values before))) (entries b)
all_new before b none =
    let nothing : before ≡ [] = drop_all 0 before (omega (arith, none)) in
    omega (
      arith,
      len-ewise_add empty b,
      ap len (empty-ewise_add b),
      len-empty place_cmp ℕ,
      ap (λ l. count_new (content (all_counts (values l))) (entries b)) nothing,
    )

-- the first layers have no more entries than all
pub len-take : (layers : List Counts) (i : ℕ) → len (content (take i layers)) ≤ len (content layers)
len-take layers i = omega (
  arith,
  ap (λ l. len (content l)) (take-append-drop i layers),
  ap len (content-append (take i layers) (drop i layers)),
  len-ewise_add (content (take i layers)) (content (drop i layers)),
)

pub dims-parts : (r c : ℕ) (a b : List Matrix) → HaveDims r c (a ++ b) → HaveDims r c a × HaveDims r c b
dims-parts r c [] b h = (tt, h)
dims-parts r c (m ∷ a) b h = let rest = dims-parts r c a b h.2 in ((h.0, h.1, rest.0), rest.1)

counts_append : {Z : Type 0} (a b : List (Arc Matrix Z)) →
    all_counts (values (a ++ b)) ≡ all_counts (values a) ++ all_counts (values b)
counts_append a b = ap all_counts (map-append arc_value a b)
    ∙ map-append (λ (m : Matrix). m.counts) (values a) (values b)

-- runs in two parts
module _ {Z : Type 0} (runs left right : List (Arc Matrix Z)) (is : runs ≡ left ++ right) where
  pub content-parts : content (all_counts (values runs)) ≡ ewise_add (content (all_counts (values left)))
      (content (all_counts (values right)))
  content-parts = ap (λ l. content (all_counts (values l))) is ∙ ap content (counts_append left right)
      ∙ content-append (all_counts (values left)) (all_counts (values right))

  pub have_parts : (r c : ℕ) → HaveDims r c (values runs) → HaveDims r c (values left) × HaveDims r c (values right)
  have_parts r c h = dims-parts r c (values left) (values right)
      (subst (HaveDims r c) (ap values is ∙ map-append arc_value left right) h)

  pub total-parts : total (content (all_counts (values runs))) ≡ total (content (all_counts (values left))) + total
      (content (all_counts (values right)))
  total-parts = ap total content-parts
      ∙ total-ewise_add (content (all_counts (values left))) (content (all_counts (values right)))

  pub runs_together : (r c : ℕ) (sum rest : Matrix) → sum ≡ matrix r c (content (all_counts (values left))) →
      rest ≡ matrix r c (content (all_counts (values right))) → record sum {
        counts = ewise_add sum.counts rest.counts;
      } ≡ matrix r c (content (all_counts (values runs)))
  runs_together r c sum rest sum_is rest_is =
      (λ i. matrix (sum_is i).rows (sum_is i).cols (ewise_add (sum_is i).counts (rest_is i).counts))
      ∙ ap (matrix r c) (sym content-parts)

pub run_alone : {Z : Type 0} (runs : List (Arc Matrix Z)) (run : Arc Matrix Z) (r c : ℕ) → HaveDims r c (values runs) →
    1 ≤ length runs → length runs < 2 → run ≡ get_or runs 0 run →
    arc_value run ≡ matrix r c (content (all_counts (values runs)))
run_alone [] run r c dims some few is = absurd (omega arith)
run_alone (x ∷ y ∷ runs) run r c dims some few is = absurd (omega arith)
run_alone (x ∷ []) run r c dims some few is =
    let here : arc_value run ≡ arc_value x = ap arc_value is in
    let held : (arc_value run).counts ≡ ewise_add (arc_value x).counts empty = ap (λ (m : Matrix). m.counts) here
    ∙ sym (ewise_add-empty (arc_value x).counts) in
    let rows : (arc_value run).rows ≡ r = ap (λ (m : Matrix). m.rows) here ∙ dims.0 in
    let cols : (arc_value run).cols ≡ c = ap (λ (m : Matrix). m.cols) here ∙ dims.1 in
    λ i. matrix (rows i) (cols i) (held i)

-- what a single run holds is what its matrix does
pub alone_counts : {Z : Type 0} (runs : List (Arc Matrix Z)) (run : Arc Matrix Z) → 1 ≤ length runs →
    length runs < 2 → run ≡ get_or runs 0 run → (arc_value run).counts ≡ content (all_counts (values runs))
alone_counts {Z} [] run some few is = absurd (omega arith)
alone_counts {Z} (x ∷ y ∷ runs) run some few is = absurd (omega arith)
alone_counts {Z} (x ∷ []) run some few is = ap (λ (r : Arc Matrix Z). (arc_value r).counts) is
    ∙ sym (ewise_add-empty (arc_value x).counts)

-- the first runs
pub counts-take : {Z : Type 0} (i : ℕ) (runs : List (Arc Matrix Z)) →
    all_counts (values (take i runs)) ≡ take i (all_counts (values runs))
counts-take i runs = ap all_counts (sym (take-map arc_value i runs))
    ∙ sym (take-map (λ (m : Matrix). m.counts) i (values runs))

-- nothing is added
pub no_runs : {Z : Type 0} (runs : List (Arc Matrix Z)) (m : Matrix) → length runs ≡ 0 →
    m ≡ record m { counts = ewise_add m.counts (content (all_counts (values runs))) }
no_runs runs m none =
    let nothing : runs ≡ [] = drop_all 0 runs (omega (arith, none)) in
    ap (matrix m.rows m.cols) (sym (ap (λ l. ewise_add m.counts (content (all_counts (values l)))) nothing
    ∙ ewise_add-empty m.counts))

-- the first run, and those behind it
module _ {Z : Type 0} (runs rest : List (Arc Matrix Z)) (first : Arc Matrix Z) (is : runs ≡ first ∷ rest) where
  content-first : content (all_counts (values runs)) ≡ ewise_add (arc_value first).counts
      (content (all_counts (values rest)))
  content-first = ap (λ l. content (all_counts (values l))) is

  pub total-first : total (content (all_counts (values runs))) ≡ total (arc_value first).counts + total
      (content (all_counts (values rest)))
  total-first = ap total content-first
      ∙ total-ewise_add (arc_value first).counts (content (all_counts (values rest)))

  pub first_added : (m others both sum value : Matrix) →
      others ≡ matrix m.rows m.cols (content (all_counts (values rest))) →
      both ≡ record m { counts = ewise_add m.counts others.counts } →
      sum ≡ record both { counts = ewise_add both.counts value.counts } → value ≡ arc_value first →
      sum ≡ record m { counts = ewise_add m.counts (content (all_counts (values runs))) }
  first_added m others both sum value others_are both_are sum_is value_is =
      sum_is ∙ (λ i. matrix (both_are i).rows (both_are i).cols (ewise_add (both_are i).counts (value_is i).counts))
      ∙ ap (matrix m.rows m.cols) (ap (λ (o : Matrix). ewise_add (ewise_add m.counts o.counts)
      (arc_value first).counts) others_are
      ∙ ewise_add_assoc m.counts (content (all_counts (values rest))) (arc_value first).counts
      ∙ ap (ewise_add m.counts) (ewise_add_comm (content (all_counts (values rest))) (arc_value first).counts
      ∙ sym content-first))

-- the last run, and those before it
module _ {Z : Type 0} (runs rest left : List (Arc Matrix Z)) (last : Arc Matrix Z) (is : runs ≡ rest ++ last ∷ [])
    (read : left ≡ rest) (v : Matrix) (r c : ℕ) (dims : HaveDims r c (values runs))
    (fits : total (content (all_counts (values runs))) < 2 ^ 64)
    (view : matrix r c (content (all_counts (values runs))) ≡ v) where
  have_last : HaveDims r c (values left) × HaveDims r c (values (last ∷ []))
  have_last = let both = have_parts runs rest (last ∷ []) is r c dims in
      (subst (λ l. HaveDims r c (values l)) (sym read) both.0, both.1)

  content-last : content (all_counts (values runs)) ≡ ewise_add (arc_value last).counts
      (content (all_counts (values left)))
  content-last = content-parts runs rest (last ∷ []) is
      ∙ ap (ewise_add (content (all_counts (values rest)))) (ewise_add-empty (arc_value last).counts)
      ∙ ewise_add_comm (content (all_counts (values rest))) (arc_value last).counts
      ∙ ap (λ l. ewise_add (arc_value last).counts (content (all_counts (values l)))) (sym read)

  pub have_left : HaveDims r c (values left)
  have_left = have_last.0

  total-last : total (content (all_counts (values runs))) ≡ total (arc_value last).counts + total
      (content (all_counts (values left)))
  total-last = ap total content-last ∙ total-ewise_add (arc_value last).counts (content (all_counts (values left)))

  pub left_fits : total (content (all_counts (values left))) < 2 ^ 64
  left_fits = omega (arith, fits, total-last)

  module _ (m others : Matrix) (m_is : m ≡ arc_value last)
      (others_are : others ≡ matrix r c (content (all_counts (values left)))) where
    pub last_rows : m.rows ≡ others.rows
    last_rows = ap (λ (x : Matrix). x.rows) m_is ∙ have_last.1.0 ∙ sym (ap (λ (x : Matrix). x.rows) others_are)

    pub last_cols : m.cols ≡ others.cols
    last_cols = ap (λ (x : Matrix). x.cols) m_is ∙ have_last.1.1 ∙ sym (ap (λ (x : Matrix). x.cols) others_are)

    pub both_fit : total m.counts + total others.counts < 2 ^ 64
    both_fit = omega (
      arith,
      fits,
      total-last,
      ap (λ (x : Matrix). total x.counts) m_is,
      ap (λ (x : Matrix). total x.counts) others_are,
    )

    pub last_added : (sum : Matrix) → sum ≡ record m { counts = ewise_add m.counts others.counts } → sum ≡ v
    last_added sum sum_is =
        sum_is ∙ ap (λ n. matrix n m.cols (ewise_add m.counts others.counts)) last_rows
        ∙ ap (λ n. matrix others.rows n (ewise_add m.counts others.counts)) last_cols
        ∙ (λ i. matrix (others_are i).rows (others_are i).cols (ewise_add (m_is i).counts (others_are i).counts))
        ∙ ap (matrix r c) (sym content-last) ∙ view

-- the entries of a map build it
built-entries : (m : Counts) → built (entries m) ≡ m
built-entries m = same_counts _ _ (λ q. get-built (entries m) q ∙ gathered-rising q (entries m) (entries_sorted m)
    ∙ sym (get-entries m q))

-- a list to which a matrix's cells were appended
pub listed_more : (old new : List Cell) (before here : Counts) →
    map entry_of new ≡ map entry_of old ++ entries here → built_of old ≡ before → built_of new ≡ ewise_add before here
listed_more old new before here is told = ap built is ∙ built-append (map entry_of old) (entries here)
    ∙ ap (λ b. ewise_add b (built (entries here))) told ∙ ap (ewise_add before) (built-entries here)

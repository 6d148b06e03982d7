-- The part of a matrix in one shard: its entries, its total, and the cells that build it; and the parts in all shards.
use Rattle.std.proofs.Common.{T, ◌≡◌, ℕ, zero, suc, ◌+◌, ◌-◌, ◌%◌, ◌<◌, ◌≤◌, ◌≢◌, Bool, true, false, cond, List, []}
use Rattle.std.proofs.Common.{◌∷◌, ◌++◌, map, take, drop, get_or, set, length, Option, None, Ordering, refl, sym, ◌∙◌}
use Rattle.std.proofs.Common.{ap, subst, arith, inl, inr, length-append, length-take, length-drop, length-set}
use Rattle.std.proofs.Common.{get_or-set_same, get_or-set_other}
use Rattle.std.proofs.Math.ListN.{get_or-append}
use Rattle.std.proofs.Math.Seq.{get_or-append_seam}
use Rattle.std.proofs.lemmas.Bool.{cases_lt, cases_eq, cases_order, eq-eqb, ne_eqb}
use Rattle.std.proofs.lemmas.List.{take-append-drop, take_all, take_more, append-nil, same_lists, get_or-take, get_or-drop}
use Rattle.std.proofs.lemmas.List.Elements.{filter-append}
use Rattle.std.proofs.lemmas.Nat.{mod_below}
use Rattle.std.specs.List.{AllByRecursion, slice_range}
use Rattle.std.specs.FinMap.{empty, entries, get, is_sorted, get-entries, get-from_sorted, entries_sorted, from_sorted}
use Rattle.std.specs.FinMap.{entries-from_sorted, from_entries}
use Rattle.std.specs.FinMap.Entries.{find-where_key, is_sorted-where_key}
use Rattle.cells.specs.Bounds.{AreWithin}
use Rattle.cells.specs.Order.{Rise}
use Rattle.cells.specs.declared.cell.Cell.{Cell}
use Rattle.hyper_matrix.specs.Counts.{Place, place_cmp, Counts, count_sum, total, built, part, in_part, plus, ewise_add}
use Rattle.hyper_matrix.specs.Cells.{entry_of, place_of, built_of, cell_total}
use Rattle.hyper_matrix.specs.Parts.{part_entries, shard_part, parts_below, shard_cells, count_below, InLine}
use Rattle.hyper_matrix.proofs.CountLaws.{exact_places, same_counts, get-part, get-built, gathered-rising, parts_whole}
use Rattle.hyper_matrix.proofs.CountLaws.{ewise_add_comm, ewise_add-empty, get-ewise_add}
use Rattle.hyper_matrix.proofs.SortedListLaws.{entries-in_order, built-in_order}
use Rattle.hyper_matrix.proofs.PlaceOrderLaws.{rises, sorted_rising}
use Rattle.hyper_matrix.proofs.BuiltOfLaws.{entries_total}
use Rattle.hyper_matrix.specs.Matrix.{Matrix, matrix}
use Rattle.hyper_matrix.specs.Shared.{LiesWithin}
use Rattle.hyper_matrix.proofs.MatrixLaws.{cells_within, entries_within}

alike : (s k : ℕ) (q x : Place) → place_cmp q x ≡ Ordering.Equal → in_part s k x ≡ in_part s k q
alike s k q x same = ap (in_part s k) (sym (exact_places q x same))

-- the entries of a part are those of the whole that lie in the shard
pub entries-part : (m : Counts) (s k : ℕ) → entries (part m s k) ≡ part_entries s k (entries m)
entries-part m s k =
    let kept = part_entries s k (entries m) in
    let sorted : T (is_sorted place_cmp kept) = is_sorted-where_key place_cmp (in_part s k) (entries m)
    (entries_sorted m) in
    ap entries (same_counts (part m s k) (from_sorted kept) (λ q.
    get-part m s k q ∙ ap (λ (o : Option ℕ). cond (in_part s k q) o None) (get-entries m q)
    ∙ sym (get-from_sorted place_cmp kept q sorted ∙ find-where_key place_cmp (in_part s k) q (alike s k q)
    (entries m))))
    ∙ entries-from_sorted place_cmp kept sorted

-- a map is what its entries build
pub built-entries : (m : Counts) → built (entries m) ≡ m
built-entries m = same_counts _ _ (λ q. get-built (entries m) q ∙ gathered-rising q (entries m) (entries_sorted m) ∙
    sym (get-entries m q))

pub total-entries : (m : Counts) → total m ≡ count_sum (entries m)
unfolding total
total-entries m = refl

pub total-part : (m : Counts) (s k : ℕ) → total (part m s k) ≡ count_sum (part_entries s k (entries m))
total-part m s k = total-entries (part m s k) ∙ ap count_sum (entries-part m s k)

-- one shard has the whole
pub part-whole : (m : Counts) (s k : ℕ) → s < k → k ≡ 1 → part m s k ≡ m
part-whole m s k less one =
    let first : s ≡ 0 = omega arith in
    (λ i. part m (first i) (one i)) ∙ sym (ewise_add-empty (part m 0 1)) ∙ ewise_add_comm (part m 0 1) empty ∙
    parts_whole m 1 (omega arith)

-- one entry more, in the shard or not
pub part_sum-more : (s k : ℕ) (e : Place × ℕ) (es : List (Place × ℕ)) → in_part s k e.0 ≡ true →
    count_sum (part_entries s k (e ∷ es)) ≡ e.1 + count_sum (part_entries s k es)
part_sum-more s k e es here = ap (λ b. count_sum (cond b (e ∷ part_entries s k es) (part_entries s k es))) here

pub part_sum-same : (s k : ℕ) (e : Place × ℕ) (es : List (Place × ℕ)) → in_part s k e.0 ≡ false →
    count_sum (part_entries s k (e ∷ es)) ≡ count_sum (part_entries s k es)
part_sum-same s k e es other = ap (λ b. count_sum (cond b (e ∷ part_entries s k es) (part_entries s k es))) other

pub part_sum-le : (s k : ℕ) (es : List (Place × ℕ)) → count_sum (part_entries s k es) ≤ count_sum es
part_sum-le s k [] = omega arith
part_sum-le s k (e ∷ es) = by (in_part s k e.0) refl (part_sum-le s k es)
  where
    by : (b : Bool) → in_part s k e.0 ≡ b → count_sum (part_entries s k es) ≤ count_sum es →
        count_sum (part_entries s k (e ∷ es)) ≤ e.1 + count_sum es
    by true h rest = omega (arith, part_sum-more s k e es h, rest)
    by false h rest = omega (arith, part_sum-same s k e es h, rest)

-- what holds of all entries holds of those in the shard
all_part : (P : Place × ℕ → Type 0) (s k : ℕ) (es : List (Place × ℕ)) → AllByRecursion P es →
    AllByRecursion P (part_entries s k es)
all_part P s k [] h = tt
all_part P s k (e ∷ es) h = by (in_part s k e.0) (all_part P s k es h.1)
  where
    by : (b : Bool) → AllByRecursion P (part_entries s k es) →
        AllByRecursion P (cond b (e ∷ part_entries s k es) (part_entries s k es))
    by true rest = (h.0, rest)
    by false rest = rest

-- a part more
pub parts_more : (n k : ℕ) (m p : Matrix) (before after : List Matrix) → before ≡ parts_below n k m →
    p ≡ shard_part n k m → after ≡ before ++ p ∷ [] → after ≡ parts_below (n + 1) k m
parts_more n k m p before after so_far is told =
    told ∙ (λ j. so_far j ++ is j ∷ []) ∙ ap (λ i. parts_below i k m) {x = suc n} {y = n + 1} (omega arith)

-- the part of a sum
pub part-ewise_add : (a b : Counts) (s k : ℕ) → part (ewise_add a b) s k ≡ ewise_add (part a s k) (part b s k)
part-ewise_add a b s k = same_counts _ _ (λ q.
    get-part (ewise_add a b) s k q ∙ ap (λ (o : Option ℕ). cond (in_part s k q) o None) (get-ewise_add a b q)
    ∙ both (in_part s k q) (get a q) (get b q)
    ∙ sym (get-ewise_add (part a s k) (part b s k) q
    ∙ ap (λ (o : Option ℕ). plus o (get (part b s k) q)) (get-part a s k q)
    ∙ ap (plus (cond (in_part s k q) (get a q) None)) (get-part b s k q)))
  where
    both : (t : Bool) (x y : Option ℕ) → cond t (plus x y) None ≡ plus (cond t x None) (cond t y None)
    both true x y = refl
    both false x y = refl

-- the entries of a shard build the part of what all of them build
built-part : (s k : ℕ) (es : List (Place × ℕ)) → T (is_sorted place_cmp es) →
    built (part_entries s k es) ≡ part (built es) s k
built-part s k es sorted =
    ap built (ap (part_entries s k) (sym (entries-in_order es sorted)) ∙ sym (entries-part (from_entries es) s k))
    ∙ built-entries (part (from_entries es) s k) ∙ ap (λ m. part m s k) (sym (built-in_order es sorted))

pub length-parts_below : (n k : ℕ) (m : Matrix) → length (parts_below n k m) ≡ n
length-parts_below zero k m = refl
length-parts_below (suc n) k m = omega (
  arith,
  length-append (parts_below n k m) (shard_part n k m ∷ []),
  length-parts_below n k m,
)

part_at : (n k s : ℕ) (m d : Matrix) → s < n → get_or (parts_below n k m) s d ≡ shard_part s k m
part_at zero k s m d below = absurd (omega arith)
part_at (suc n) k s m d below = elim (cases_lt s n) [
  | inl before ↦
      get_or-append (parts_below n k m) (shard_part n k m ∷ []) d s (omega (arith, length-parts_below n k m, before)) ∙
      part_at n k s m d before
  | inr behind ↦
      let last : s ≡ n = omega arith in
      let place : s ≡ length (parts_below n k m) = omega (arith, length-parts_below n k m) in
      ap (λ (i : ℕ). get_or (parts_below n k m ++ shard_part n k m ∷ []) i d) place
      ∙ get_or-append_seam (parts_below n k m) (shard_part n k m) [] d
      ∙ ap (λ (i : ℕ). shard_part i k m) (sym last)
]

-- the part that is read at place s
pub part_read : (k s : ℕ) (m part : Matrix) (parts : List Matrix) → parts ≡ parts_below k k m → s < k →
    part ≡ get_or parts s part → part ≡ shard_part s k m
part_read k s m part parts are below is =
    is ∙ ap (λ (ps : List Matrix). get_or ps s part) are ∙ part_at k k s m part below

-- one shard alone
pub parts-one : (k : ℕ) (m p : Matrix) (none after : List Matrix) → k ≡ 1 → p ≡ m → none ≡ [] →
    after ≡ none ++ p ∷ [] → after ≡ parts_below k k m
parts-one k m p none after one is nothing told =
    told ∙ (λ j. nothing j ++ is j ∷ [])
    ∙ ap (λ c. matrix m.rows m.cols c ∷ []) (sym (part-whole m.counts 0 1 (omega arith) refl))
    ∙ (λ j. parts_below (sym one j) (sym one j) m)

-- the cells of a shard

pub entries-shard : (s k : ℕ) (cells : List Cell) →
    map entry_of (shard_cells s k cells) ≡ part_entries s k (map entry_of cells)
entries-shard s k [] = refl
entries-shard s k (x ∷ cells) = step (in_part s k (place_of x)) (entries-shard s k cells)
  where
    step : (b : Bool) → map entry_of (shard_cells s k cells) ≡ part_entries s k (map entry_of cells) →
        map entry_of (cond b (x ∷ shard_cells s k cells) (shard_cells s k cells)) ≡
        cond b (entry_of x ∷ part_entries s k (map entry_of cells)) (part_entries s k (map entry_of cells))
    step true rest = ap (λ (l : List (Place × ℕ)). entry_of x ∷ l) rest
    step false rest = rest

module _ (s k : ℕ) (cells : List Cell) (in_order : Rise cells) where
  pub shard_rises : Rise (shard_cells s k cells)
  shard_rises = rises (shard_cells s k cells) (subst (λ (es : List (Place × ℕ)). T (is_sorted place_cmp es))
      (sym (entries-shard s k cells))
      (is_sorted-where_key place_cmp (in_part s k) (map entry_of cells) (sorted_rising cells in_order)))

  pub shard_built : built_of (shard_cells s k cells) ≡ part (built_of cells) s k
  shard_built = ap built (entries-shard s k cells) ∙
      built-part s k (map entry_of cells) (sorted_rising cells in_order)

pub shard_within : (s k r c : ℕ) (cells : List Cell) → AreWithin r c cells → AreWithin r c (shard_cells s k cells)
shard_within s k r c cells within = cells_within r c (shard_cells s k cells)
    (subst (AllByRecursion (LiesWithin r c)) (sym (entries-shard s k cells))
    (all_part (LiesWithin r c) s k (map entry_of cells) (entries_within r c cells within)))

pub shard_total : (s k : ℕ) (cells : List Cell) → cell_total (shard_cells s k cells) ≤ cell_total cells
shard_total s k cells = omega (
  arith,
  entries_total (shard_cells s k cells),
  ap count_sum (entries-shard s k cells),
  part_sum-le s k (map entry_of cells),
  entries_total cells,
)

-- the part that a shard's cells build, as part s of the matrix
pub is_part : (s k r c : ℕ) (cells : List Cell) (p : Matrix) → Rise cells →
    p ≡ matrix r c (built_of (shard_cells s k cells)) → p ≡ shard_part s k (matrix r c (built_of cells))
is_part s k r c cells p in_order is = is ∙ ap (matrix r c) (shard_built s k cells in_order)

-- how many cells the shards have

module _ (k : ℕ) (x : Cell) (cells : List Cell) where
  one_in : (s : ℕ) → x.row % k ≡ s → length (shard_cells s k (x ∷ cells)) ≡ suc (length (shard_cells s k cells))
  one_in s is = ap (λ b. length (cond b (x ∷ shard_cells s k cells) (shard_cells s k cells))) (eq-eqb (x.row % k) s is)

  one_out : (s : ℕ) → (x.row % k ≡ s → ⊥) → length (shard_cells s k (x ∷ cells)) ≡ length (shard_cells s k cells)
  one_out s n = ap (λ b. length (cond b (x ∷ shard_cells s k cells) (shard_cells s k cells))) (ne_eqb (x.row % k) s n)

  below_out : (n : ℕ) → n ≤ x.row % k → count_below n k (x ∷ cells) ≡ count_below n k cells
  below_out zero h = refl
  below_out (suc n) h = omega (arith, below_out n (omega arith), one_out n (λ e. omega arith))

  below_in : (n : ℕ) → x.row % k < n → count_below n k (x ∷ cells) ≡ suc (count_below n k cells)
  below_in zero h = absurd (omega arith)
  below_in (suc n) h = elim (cases_lt (x.row % k) n) [
    | inl less ↦ omega (arith, below_in n less, one_out n (λ e. omega arith))
    | inr le ↦ omega (arith, below_out n le, one_in n (omega arith))
  ]

pub none_below : (n k : ℕ) → count_below n k [] ≡ 0
none_below zero k = refl
none_below (suc n) k = omega (arith, none_below n k)

pub count_all : (k : ℕ) (cells : List Cell) → 0 < k → count_below k k cells ≡ length cells
count_all k [] h = none_below k k
count_all k (x ∷ cells) h = omega (arith, below_in k x cells k (mod_below x.row k h), count_all k cells h)

pub below_le : (m n k : ℕ) (cells : List Cell) → m ≤ n → count_below m k cells ≤ count_below n k cells
below_le zero n k cells h = omega arith
below_le (suc m) zero k cells h = absurd (omega arith)
below_le (suc m) (suc n) k cells h = elim (cases_lt m n) [
  | inl less ↦ omega (arith, below_le (suc m) n k cells (omega arith))
  | inr le ↦
      let same : m ≡ n = omega arith in
      omega (arith, ap (λ i. count_below (suc i) k cells) same)
]

pub below_next : (s k : ℕ) (cells : List Cell) →
    count_below (s + 1) k cells ≡ count_below s k cells + length (shard_cells s k cells)
below_next s k cells = ap (λ n. count_below n k cells) {x = s + 1} {y = suc s} (omega arith)

-- the cell at i is x
module _ (k : ℕ) (cells : List Cell) (i : ℕ) (x : Cell) (lt : i < length cells) (at_i : x ≡ get_or cells i x) where
  -- one cell more, in its shard alone
  split_here : (s : ℕ) → shard_cells s k (take (i + 1) cells) ≡
      shard_cells s k (take i cells) ++ shard_cells s k (x ∷ [])
  split_here s = ap (shard_cells s k) (take_more cells i x lt ∙
      ap (λ (y : Cell). take i cells ++ y ∷ []) (sym at_i))
      ∙ filter-append (λ (c : Cell). in_part s k (place_of c)) (take i cells) (x ∷ [])

  pub more_here : (s : ℕ) → x.row % k ≡ s → shard_cells s k (take (i + 1) cells) ≡
      shard_cells s k (take i cells) ++ x ∷ []
  more_here s is = split_here s ∙ ap (λ b. shard_cells s k (take i cells) ++ cond b (x ∷ []) [])
      (eq-eqb (x.row % k) s is)

  pub same_other : (s : ℕ) → (x.row % k ≡ s → ⊥) → shard_cells s k (take (i + 1) cells) ≡
      shard_cells s k (take i cells)
  same_other s n = split_here s ∙ ap (λ b. shard_cells s k (take i cells) ++ cond b (x ∷ []) [])
      (ne_eqb (x.row % k) s n) ∙ append-nil (shard_cells s k (take i cells))

pub shard_split : (s k i : ℕ) (cells : List Cell) →
    length (shard_cells s k cells) ≡ length (shard_cells s k (take i cells)) + length (shard_cells s k (drop i cells))
shard_split s k i cells = ap (λ (l : List Cell). length (shard_cells s k l)) (sym (take-append-drop i cells)) ∙
    ap length (filter-append (λ (c : Cell). in_part s k (place_of c)) (take i cells) (drop i cells)) ∙
    length-append (shard_cells s k (take i cells)) (shard_cells s k (drop i cells))

-- the first i cells are counted
abbrev pub Counted : ℕ → List ℕ → List Cell → ℕ → Type 0
Counted k counts cells i = (s : ℕ) → s < k → get_or counts s 0 ≡ length (shard_cells s k (take i cells))

pub count_more : (k : ℕ) (counts : List ℕ) (cells : List Cell) (i s : ℕ) (x : Cell) → i < length cells →
    x ≡ get_or cells i x → s ≡ x.row % k → s < length counts → Counted k counts cells i →
    Counted k (set counts s (get_or counts s 0 + 1)) cells (i + 1)
count_more k counts cells i s x lt at_i is within so_far t below = elim (cases_eq t s) [
  | inl same ↦
      ap (λ n. get_or (set counts s (get_or counts s 0 + 1)) n 0) same
      ∙ get_or-set_same counts s (get_or counts s 0 + 1) 0 within
      ∙ omega (
        arith,
        ap (λ n. get_or counts n 0) same,
        so_far t below,
        ap length (more_here k cells i x lt at_i t (sym is ∙ sym same)),
        length-append (shard_cells t k (take i cells)) (x ∷ []),
      )
  | inr other ↦
      get_or-set_other counts s t (get_or counts s 0 + 1) 0 other ∙ so_far t below
      ∙ sym (ap length (same_other k cells i x lt at_i t (λ e. other (sym e ∙ sym is))))
]

-- the first i cells stand in line, in the places of their shards, and `next` has the next place of each shard
pub record PutInLine (k : ℕ) (line : List Cell) (next : List ℕ) (cells : List Cell) (i : ℕ) : Type 0 where
  pub room : length line ≡ length cells
  pub places : length next ≡ k
  pub next_is : (s : ℕ) → s < k → get_or next s 0 ≡ count_below s k cells + length (shard_cells s k (take i cells))
  pub put : (s j : ℕ) (d : Cell) → s < k → j < length (shard_cells s k (take i cells)) →
      get_or line (count_below s k cells + j) d ≡ get_or (shard_cells s k (take i cells)) j d

pub line_begins : (k : ℕ) (line : List Cell) (next : List ℕ) (cells : List Cell) → length line ≡ length cells →
    length next ≡ k → ((s : ℕ) → s < k → get_or next s 0 ≡ count_below s k cells) → PutInLine k line next cells 0
line_begins k line next cells room places begins = record {
  room = room;
  places = places;
  next_is = λ s h. omega (arith, begins s h);
  put = λ s j d h g. absurd (omega arith);
}

module _ (k : ℕ) (line : List Cell) (next : List ℕ) (cells : List Cell) (i s at : ℕ) (x : Cell) (lt : i < length cells)
    (at_i : x ≡ get_or cells i x) (is : s ≡ x.row % k) (below : s < k) (at_is : at ≡ get_or next s 0)
    (so_far : PutInLine k line next cells i) where
  here : shard_cells s k (take (i + 1) cells) ≡ shard_cells s k (take i cells) ++ x ∷ []
  here = more_here k cells i x lt at_i s (sym is)

  next_place : at ≡ count_below s k cells + length (shard_cells s k (take i cells))
  next_place = at_is ∙ so_far.next_is s below

  pub in_shard : at < count_below (s + 1) k cells
  in_shard = omega (
    arith,
    next_place,
    below_next s k cells,
    shard_split s k (i + 1) cells,
    ap length here,
    length-append (shard_cells s k (take i cells)) (x ∷ []),
  )

  pub in_line : at < length line
  in_line =
      let some : 0 < k = omega arith in
      omega (arith, in_shard, below_le (s + 1) k k cells (omega arith), count_all k cells some, so_far.room)

  -- a place of another shard
  elsewhere : (t j : ℕ) → (t ≡ s → ⊥) → j < length (shard_cells t k (take i cells)) → count_below t k cells + j ≢ at
  elsewhere t j other h same = elim (cases_order t s) [
    | inl e ↦ other e
    | inr (inl less) ↦
        omega (
          arith,
          h,
          same,
          shard_split t k i cells,
          below_next t k cells,
          below_le (t + 1) s k cells (omega arith),
          next_place,
        )
    | inr (inr more) ↦ omega (arith, same, in_shard, below_le (s + 1) t k cells (omega arith))
  ]

  put_more : (t j : ℕ) (d : Cell) → t < k → j < length (shard_cells t k (take (i + 1) cells)) →
      get_or (set line at x) (count_below t k cells + j) d ≡ get_or (shard_cells t k (take (i + 1) cells)) j d
  put_more t j d h g = elim (cases_eq t s) [
    | inl same ↦ subst (λ (u : ℕ). j < length (shard_cells u k (take (i + 1) cells)) →
        get_or (set line at x) (count_below u k cells + j) d ≡ get_or (shard_cells u k (take (i + 1) cells)) j d)
        (sym same) (λ g. own g) g
    | inr other ↦
        let stays = same_other k cells i x lt at_i t (λ e. other (sym e ∙ sym is)) in
        let h2 : j < length (shard_cells t k (take i cells)) = omega (arith, g, ap length stays) in
        get_or-set_other line at (count_below t k cells + j) x d (elsewhere t j other h2)
        ∙ so_far.put t j d h h2 ∙ ap (λ (l : List Cell). get_or l j d) (sym stays)
  ]
    where
      own : j < length (shard_cells s k (take (i + 1) cells)) →
          get_or (set line at x) (count_below s k cells + j) d ≡ get_or (shard_cells s k (take (i + 1) cells)) j d
      own g = elim (cases_lt j (length (shard_cells s k (take i cells)))) [
        | inl less ↦
            let apart : count_below s k cells + j ≢ at = λ e. omega (arith, e, next_place) in
            get_or-set_other line at (count_below s k cells + j) x d apart
            ∙ so_far.put s j d below less
            ∙ sym (get_or-append (shard_cells s k (take i cells)) (x ∷ []) d j less)
            ∙ ap (λ (l : List Cell). get_or l j d) (sym here)
        | inr le ↦
            let last : j ≡ length (shard_cells s k (take i cells)) = omega (
              arith,
              g,
              ap length here,
              length-append (shard_cells s k (take i cells)) (x ∷ []),
            ) in
            ap (λ n. get_or (set line at x) n d) {x = count_below s k cells + j} {y = at} (omega (arith, last, next_place))
            ∙ get_or-set_same line at x d in_line
            ∙ sym (get_or-append_seam (shard_cells s k (take i cells)) x [] d)
            ∙ ap (λ n. get_or (shard_cells s k (take i cells) ++ x ∷ []) n d) (sym last)
            ∙ ap (λ (l : List Cell). get_or l j d) (sym here)
      ]

  next_more : (t : ℕ) → t < k → get_or (set next s (at + 1)) t 0 ≡
      count_below t k cells + length (shard_cells t k (take (i + 1) cells))
  next_more t h = elim (cases_eq t s) [
    | inl same ↦
        ap (λ n. get_or (set next s (at + 1)) n 0) same
        ∙ get_or-set_same next s (at + 1) 0 (omega (arith, so_far.places))
        ∙ omega (
          arith,
          next_place,
          ap length here,
          length-append (shard_cells s k (take i cells)) (x ∷ []),
          ap (λ n. count_below n k cells + length (shard_cells n k (take (i + 1) cells))) same,
        )
    | inr other ↦
        get_or-set_other next s t (at + 1) 0 other ∙ so_far.next_is t h
        ∙ ap (λ (l : List Cell). count_below t k cells + length l)
        (sym (same_other k cells i x lt at_i t (λ e. other (sym e ∙ sym is))))
  ]

  pub line_more : PutInLine k (set line at x) (set next s (at + 1)) cells (i + 1)
  line_more = record {
    room = omega (arith, length-set line at x, so_far.room);
    places = omega (arith, length-set next s (at + 1), so_far.places);
    next_is = next_more;
    put = put_more;
  }

module _ (k : ℕ) (line : List Cell) (next : List ℕ) (cells : List Cell) (i : ℕ) (all : length cells ≤ i)
    (done : PutInLine k line next cells i) where
  taken : take i cells ≡ cells
  taken = take_all i cells all

  pub line_ends : (s : ℕ) → s < k → get_or next s 0 ≡ count_below (s + 1) k cells
  line_ends s h = done.next_is s h ∙
      ap (λ (l : List Cell). count_below s k cells + length (shard_cells s k l)) taken ∙ sym (below_next s k cells)

  pub in_line_all : InLine k line cells
  in_line_all s h =
      let from = count_below s k cells in
      let to = count_below (s + 1) k cells in
      let some : 0 < k = omega arith in
      let bound : to ≤ length line = omega (
        arith,
        below_le (s + 1) k k cells (omega arith),
        count_all k cells some,
        done.room,
      ) in
      let long : length (slice_range line from to) ≡ length (shard_cells s k cells) = omega (
        arith,
        length-take (to - from) (drop from line),
        length-drop from line,
        below_next s k cells,
        bound,
      ) in
      same_lists (slice_range line from to) (shard_cells s k cells) long (λ j d g.
      get_or-take (to - from) (drop from line) j d (omega (arith, g, long, below_next s k cells))
      ∙ get_or-drop from line j d
      ∙ done.put s j d h (omega (arith, g, long, ap (λ (l : List Cell). length (shard_cells s k l)) taken))
      ∙ ap (λ (l : List Cell). get_or (shard_cells s k l) j d) taken)

-- a list of the cells that were appended to none
pub listed_part : (s k : ℕ) (list none read cells : List Cell) → none ≡ [] → read ≡ cells →
    list ≡ none ++ shard_cells s k read → list ≡ shard_cells s k cells
listed_part s k list none read cells nothing same told =
    told ∙ (λ j. nothing j ++ shard_cells s k (same j))

-- no more of the first i cells are in a shard than there are
few_in : (s k : ℕ) (cells : List Cell) → length (shard_cells s k cells) ≤ length cells
few_in s k [] = omega arith
few_in s k (x ∷ cells) = elim (in_part s k (place_of x)) as
    (λ t. length (cond t (x ∷ shard_cells s k cells) (shard_cells s k cells)) ≤ suc (length cells)) [
      | true ↦ omega (arith, few_in s k cells)
      | false ↦ omega (arith, few_in s k cells)
    ]

pub few_taken : (s k i : ℕ) (cells : List Cell) → length (shard_cells s k (take i cells)) ≤ i
few_taken s k i cells = omega (arith, few_in s k (take i cells), length-take i cells)

-- the places of shard i in the line
module _ (k i from to : ℕ) (cells line : List Cell) (lt : i < k) (from_is : from ≡ count_below i k cells)
    (to_is : to ≡ count_below (i + 1) k cells) (all : length line ≡ length cells) (in_line : InLine k line cells) where
  pub cut_range : (from ≤ to) × (to ≤ length line)
  cut_range =
      let some : 0 < k = omega arith in (
        omega (arith, from_is, to_is, below_next i k cells),
        omega (arith, to_is, below_le (i + 1) k k cells (omega arith), count_all k cells some, all),
      )

  pub cut_is : slice_range line from to ≡ shard_cells i k cells
  cut_is = (λ j. slice_range line (from_is j) (to_is j)) ∙ in_line i lt

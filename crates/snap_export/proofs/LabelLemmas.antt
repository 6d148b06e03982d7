-- Labels in rising order, and cells that are read back by them.
use Rattle.std.proofs.Common.{◌≡◌, ℕ, zero, suc, ◌+◌, ◌<◌, ◌≤◌, ◌⊎◌, Bool, cond, ◌&&◌, List, [], ◌∷◌, ◌++◌, length}
use Rattle.std.proofs.Common.{get_or, map, refl, sym, ◌∙◌, ap, subst, arith, inl, inr, ⊎_elim, Option, Some}
use Rattle.std.proofs.Common.{unwrap_or, Contains, eqb, take}
use Rattle.std.proofs.lemmas.List.{get_or-map, length-map, get_or_default, take_more, map-append}
use Rattle.std.proofs.lemmas.List.Kept.{AllPairs-from_increasing, Contains-dedup_nat, Contains-from_dedup}
use Rattle.std.proofs.lemmas.List.Elements.{Contains-append_left, Contains-push, Contains-push_cases}
use Rattle.std.proofs.lemmas.List.Sorted.{Contains-permutation, IsPermutation-sym}
use Rattle.std.proofs.lemmas.Map.Keys.{IsStrictlyIncreasing-dedup}
use Rattle.std.specs.List.{dedup}
use Rattle.std.specs.Ordering.{nat_cmp}
use Rattle.std.specs.List.Sorted.{IsStrictlyIncreasing, IsPermutation, IsSorted}
use Rattle.cells.specs.declared.cell.Cell.{Cell}
use Rattle.cells.specs.Bounds.{AreWithin}
use Rattle.cells.specs.Order.{Rise}
use Rattle.cells.specs.Sums.{stands_at, sum_at}
use Rattle.snap_export.specs.Labels.{label, back, HaveSame, AreLabels, number_of, numbers_of}
use Rattle.snap_export.specs.declared.axis.Axis.{Axis}

pub label_less : (labels : List ℕ) → IsStrictlyIncreasing labels → (i j : ℕ) → i < j → j < length labels →
    label labels i < label labels j
label_less labels up i j lt within = AllPairs-from_increasing labels up i j 0 lt within

ordered : (a b : ℕ) → (a < b) ⊎ ((a ≡ b) ⊎ (b < a))
ordered zero zero = inr (inl refl)
ordered zero (suc b) = inl (omega arith)
ordered (suc a) zero = inr (inr (omega arith))
ordered (suc a) (suc b) = ⊎_elim (λ lt. inl (omega (arith, lt)))
    (λ other. ⊎_elim (λ e. inr (inl (ap suc e))) (λ gt. inr (inr (omega (arith, gt)))) other) (ordered a b)

-- labels are ordered as their places
pub label_order : (labels : List ℕ) → IsStrictlyIncreasing labels → (i j : ℕ) → i < length labels →
    label labels i < label labels j → i < j
label_order labels up i j within lt = ⊎_elim (λ h. h)
    (λ other. ⊎_elim (λ e. absurd (omega (arith, lt, ap (label labels) e)))
    (λ gt. absurd (omega (arith, lt, label_less labels up j i gt within))) other) (ordered i j)

pub label_same : (labels : List ℕ) → IsStrictlyIncreasing labels → (i j : ℕ) → i < length labels → j < length labels →
    label labels i ≡ label labels j → i ≡ j
label_same labels up i j a b e = ⊎_elim (λ lt. absurd (omega (arith, e, label_less labels up i j lt b)))
    (λ other. ⊎_elim (λ h. h) (λ gt. absurd (omega (arith, e, label_less labels up j i gt a))) other) (ordered i j)

pub label_below : (labels : List ℕ) → IsStrictlyIncreasing labels → (i j : ℕ) → i ≤ j → j < length labels →
    label labels i ≤ label labels j
label_below labels up i j le within = ⊎_elim (λ lt. omega (arith, label_less labels up i j lt within))
    (λ other. ⊎_elim (λ e. omega (arith, ap (label labels) e)) (λ gt. absurd (omega (arith, gt, le))) other)
    (ordered i j)

-- a label isn't missed by a search
pub not_missed : (labels : List ℕ) (n i : ℕ) → Contains labels n → ((k : ℕ) → k < i → label labels k < n) →
    ((k : ℕ) → i ≤ k → k < length labels → n < label labels k) → ⊥
not_missed labels n i h below above =
    let here : label labels h.0 ≡ n = get_or_default labels h.0 0 n h.1 ∙ h.2 in
    ⊎_elim (λ lt. absurd (omega (arith, here, below h.0 lt)))
    (λ other. absurd (omega
    (arith, here, above h.0 (⊎_elim (λ e. omega (arith, e)) (λ gt. omega (arith, gt)) other) h.1)))
    (ordered h.0 i)

-- two labels are the same where their places are
eq_label : (labels : List ℕ) → IsStrictlyIncreasing labels → (i j : ℕ) → i < length labels → j < length labels →
    eqb (label labels i) (label labels j) ≡ eqb i j
eq_label labels up i j a b = ⊎_elim (λ lt. ne_both i j lt (label_less labels up i j lt b))
    (λ other. ⊎_elim (λ e. subst (λ k. eqb (label labels i) (label labels k) ≡ eqb i k) e (same_both i))
    (λ gt. ne_back i j gt (label_less labels up j i gt a)) other) (ordered i j)
  where
    same_both : (k : ℕ) → eqb (label labels k) (label labels k) ≡ eqb k k
    same_both k = grind arith

    ne_both : (k l : ℕ) → k < l → label labels k < label labels l → eqb (label labels k) (label labels l) ≡ eqb k l
    ne_both k l lt far = grind arith

    ne_back : (k l : ℕ) → l < k → label labels l < label labels k → eqb (label labels k) (label labels l) ≡ eqb k l
    ne_back k l lt far = grind arith

-- ---- numbers of cells

pub same_push : (xs ys : List ℕ) (n : ℕ) → HaveSame xs ys → HaveSame (xs ++ n ∷ []) (ys ++ n ∷ [])
same_push xs ys n h m = (
  λ has. ⊎_elim (λ before. Contains-append_left ys (n ∷ []) m ((h m).0 before))
      (λ e. subst (Contains (ys ++ n ∷ [])) e (Contains-push ys n)) (Contains-push_cases xs n m has),
  λ has. ⊎_elim (λ before. Contains-append_left xs (n ∷ []) m ((h m).1 before))
      (λ e. subst (Contains (xs ++ n ∷ [])) e (Contains-push xs n)) (Contains-push_cases ys n m has),
)

pub same_then : (xs ys zs : List ℕ) → HaveSame xs ys → HaveSame ys zs → HaveSame xs zs
same_then xs ys zs p q m = (λ h. (q m).0 ((p m).0 h), λ h. (p m).1 ((q m).1 h))

-- the number of one cell more
pub numbers_more : (axis : Axis) (cells : List Cell) (i n : ℕ) (d : Cell) → i < length cells →
    n ≡ number_of axis (get_or cells i d) →
    numbers_of axis (take i cells) ++ n ∷ [] ≡ numbers_of axis (take (i + 1) cells)
numbers_more axis cells i n d lt is =
    ap (λ (m : ℕ). numbers_of axis (take i cells) ++ m ∷ []) is
    ∙ sym (ap (numbers_of axis) (take_more cells i d lt)
    ∙ map-append (number_of axis) (take i cells) (get_or cells i d ∷ []))

pub same_more : (axis : Axis) (cells : List Cell) (i n : ℕ) (d : Cell) (before after : List ℕ) → i < length cells →
    n ≡ number_of axis (get_or cells i d) → HaveSame before (numbers_of axis (take i cells)) →
    HaveSame after (before ++ n ∷ []) → HaveSame after (numbers_of axis (take (i + 1) cells))
same_more axis cells i n d before after lt is same pushed =
    subst (HaveSame after) (numbers_more axis cells i n d lt is)
    (same_then after (before ++ n ∷ []) (numbers_of axis (take i cells) ++ n ∷ []) pushed
    (same_push before (numbers_of axis (take i cells)) n same))

-- each cell has a label
pub each_numbered : (axis : Axis) (cells : List Cell) (labels : List ℕ) →
    AreLabels (Contains (numbers_of axis cells)) labels → (k : ℕ) (d : Cell) → k < length cells →
    Contains labels (number_of axis (get_or cells k d))
each_numbered axis cells labels are k d lt =
    let n = number_of axis (get_or cells k d) in
    are.all n (k, omega (arith, lt, length-map cells (number_of axis)), get_or-map (number_of axis) cells k d n lt)

pub each_labelled : (axis : Axis) (given cells : List Cell) (labels used : List ℕ) → cells ≡ given → used ≡ labels →
    AreLabels (Contains (numbers_of axis given)) labels → (k : ℕ) (d : Cell) → k < length cells →
    Contains used (number_of axis (get_or cells k d))
each_labelled axis given cells labels used same is are k d lt =
    subst (λ (ls : List ℕ). Contains ls (number_of axis (get_or cells k d))) (sym is)
    (each_numbered axis cells labels
    (subst (λ (cs : List Cell). AreLabels (Contains (numbers_of axis cs)) labels) (sym same) are) k d lt)

-- a sorted list in which each number is left once
pub labels_made : (numbers list sorted : List ℕ) → HaveSame list numbers → IsPermutation list sorted →
    IsSorted nat_cmp sorted → AreLabels (Contains numbers) (dedup eqb sorted)
labels_made numbers list sorted same moved order = record {
  rise = IsStrictlyIncreasing-dedup sorted order;
  all = λ n h. Contains-dedup_nat sorted n (Contains-permutation list sorted n moved ((same n).1 h));
  none_else = λ n h. (same n).0 (Contains-permutation sorted list n (IsPermutation-sym list sorted moved)
      (Contains-from_dedup eqb sorted n h));
}

module _ (rows cols : List ℕ) (up_rows : IsStrictlyIncreasing rows) (up_cols : IsStrictlyIncreasing cols) where
  -- a cell stands at a place where, read back, it stands at the labels of that place
  stands_back : (i j : ℕ) (cell : Cell) → i < length rows → j < length cols → cell.row < length rows →
      cell.col < length cols → stands_at (label rows i, label cols j) (back rows cols cell) ≡ stands_at (i, j) cell
  stands_back i j cell a b r c =
      ap (λ (t : Bool). t && eqb (label cols j) (label cols cell.col)) (eq_label rows up_rows i cell.row a r)
      ∙ ap (λ (t : Bool). eqb i cell.row && t) (eq_label cols up_cols j cell.col b c)

  -- so what stands there is the same
  pub sum_back : (cells : List Cell) → AreWithin (length rows) (length cols) cells → (i j : ℕ) → i < length rows →
      j < length cols → sum_at (label rows i, label cols j) (map (back rows cols) cells) ≡ sum_at (i, j) cells
  sum_back [] all i j a b = refl
  sum_back (cell ∷ cells) all i j a b =
      let first = all 0 cell (omega arith) in
      let rest = sum_back cells (λ k d h. all (suc k) d (omega (arith, h))) i j a b in
      ap (λ (t : Bool). cond t (Some (cell.count
      + unwrap_or (sum_at (label rows i, label cols j) (map (back rows cols) cells)) 0))
      (sum_at (label rows i, label cols j) (map (back rows cols) cells)))
      (stands_back i j cell a b first.0 first.1)
      ∙ ap (λ (o : Option ℕ). cond (stands_at (i, j) cell) (Some (cell.count + unwrap_or o 0)) o) rest

  -- and the order too
  pub rise_back : (cells : List Cell) → AreWithin (length rows) (length cols) cells →
      Rise (map (back rows cols) cells) → Rise cells
  rise_back cells all up k d lt =
      let first = get_or cells k d in
      let next = get_or cells (k + 1) d in
      let long = length-map cells (back rows cols) in
      let here = all k d (omega (arith, lt)) in
      let there = all (k + 1) d lt in
      let read = up k (back rows cols d) (omega (arith, lt, long)) in
      let first_is = get_or-map (back rows cols) cells k d (back rows cols d) (omega (arith, lt)) in
      let next_is = get_or-map (back rows cols) cells (k + 1) d (back rows cols d) lt in
      ⊎_elim
      (λ h. inl (label_order rows up_rows first.row next.row here.0
      (omega (arith, h, ap (λ (c : Cell). c.row) first_is, ap (λ (c : Cell). c.row) next_is))))
      (λ h. inr (
        label_same rows up_rows first.row next.row here.0 there.0
            (sym (ap (λ (c : Cell). c.row) first_is) ∙ h.0 ∙ ap (λ (c : Cell). c.row) next_is),
        label_order cols up_cols first.col next.col here.1
            (omega (arith, h.1, ap (λ (c : Cell). c.col) first_is, ap (λ (c : Cell). c.col) next_is)),
      )) read

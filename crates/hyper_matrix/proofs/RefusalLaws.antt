-- Each list makes a matrix, leaves the dimensions or passes the limit, and the first fault says which.
use Rattle.std.proofs.Common.{◌≡◌, ℕ, ◌+◌, ◌<◌, ◌≤◌, ◌^◌, ◌⊎◌, ◌&&◌, Bool, true, false, cond, ltb, List, [], ◌∷◌, ◌++◌}
use Rattle.std.proofs.Common.{Some, None, sym, ◌∙◌, ap, refl, inl, inr, arith}
use Rattle.std.specs.Prelude.{◌↔◌}
use Rattle.std.proofs.lemmas.Bool.{lt-ltb, le-ltb, cases_lt}
use Rattle.std.proofs.lemmas.List.Elements.{All-nil, All-cons, All-head, All-tail}
use Rattle.std.proofs.lemmas.List.{append-nil}
use Rattle.cells.specs.Bounds.{IsWithin, AreWithin}
use Rattle.cells.specs.declared.cell.Cell.{Cell}
use Rattle.hyper_matrix.specs.Cells.{cell_total}
use Rattle.hyper_matrix.specs.Refusals.{first_fault, MakesMatrix, LeavesDimensions, PassesLimit}
use Rattle.hyper_matrix.specs.declared.judge.BuildFault.TheVariants.{IndexOutOfRange, SumTooLarge}

and_false : (b : Bool) → (b && false) ≡ false
and_false true = refl
and_false false = refl

module _ (r c : ℕ) where
  inside : (x : Cell) → IsWithin r c x → (ltb x.row r && ltb x.col c) ≡ true
  inside x h = ap (λ b. b && ltb x.col c) (lt-ltb x.row r h.0) ∙ lt-ltb x.col c h.1

  outside : (x : Cell) → (r ≤ x.row) ⊎ (c ≤ x.col) → (ltb x.row r && ltb x.col c) ≡ false
  outside x (inl h) = ap (λ b. b && ltb x.col c) (le-ltb x.row r h)
  outside x (inr h) = ap (λ b. ltb x.row r && b) (le-ltb x.col c h) ∙ and_false (ltb x.row r)

  -- what is judged behind a cell that lies within
  behind : (s : ℕ) (x : Cell) (xs : List Cell) → IsWithin r c x →
      first_fault r c s (x ∷ xs) ≡ cond (ltb (s + x.count) (2 ^ 64)) (first_fault r c (s + x.count) xs)
      (Some SumTooLarge)
  behind s x xs h = ap (λ b. cond b (cond (ltb (s + x.count) (2 ^ 64)) (first_fault r c (s + x.count) xs)
      (Some SumTooLarge)) (Some IndexOutOfRange)) (inside x h)

  -- cells without fault are passed over
  passed : (s : ℕ) (before rest : List Cell) → AreWithin r c before → s + cell_total before < 2 ^ 64 →
      first_fault r c s (before ++ rest) ≡ first_fault r c (s + cell_total before) rest
  passed s [] rest w f = ap (λ n. first_fault r c n rest) {x = s} {y = s + 0} (omega arith)
  passed s (x ∷ xs) rest w f =
      behind s x (xs ++ rest) (All-head (IsWithin r c) x xs w) ∙
      ap (λ b. cond b (first_fault r c (s + x.count) (xs ++ rest)) (Some SumTooLarge))
      (lt-ltb (s + x.count) (2 ^ 64) (omega arith))
      ∙ passed (s + x.count) xs rest (All-tail (IsWithin r c) x xs w) (omega arith)
      ∙ ap (λ n. first_fault r c n rest) {x = s + x.count + cell_total xs} {y = s + (x.count + cell_total xs)}
      (omega arith)

  start : (before rest : List Cell) → MakesMatrix r c before →
      first_fault r c 0 (before ++ rest) ≡ first_fault r c (cell_total before) rest
  start before rest w = passed 0 before rest w.within (omega (arith, w.fits)) ∙
      ap (λ n. first_fault r c n rest) {x = 0 + cell_total before} {y = cell_total before} (omega arith)

  index_told : (cells : List Cell) → LeavesDimensions r c cells → first_fault r c 0 cells ≡ Some IndexOutOfRange
  index_told cells w = ap (first_fault r c 0) w.parts ∙ start w.before (w.cell ∷ w.after) w.well
      ∙ ap (λ b. cond b (cond (ltb (cell_total w.before + w.cell.count) (2 ^ 64))
      (first_fault r c (cell_total w.before + w.cell.count) w.after) (Some SumTooLarge)) (Some IndexOutOfRange))
      (outside w.cell w.outside)

  sum_told : (cells : List Cell) → PassesLimit r c cells → first_fault r c 0 cells ≡ Some SumTooLarge
  sum_told cells w = ap (first_fault r c 0) w.parts ∙ start w.before (w.cell ∷ w.after) w.well ∙
      behind (cell_total w.before) w.cell w.after w.within
      ∙ ap (λ b. cond b (first_fault r c (cell_total w.before + w.cell.count) w.after) (Some SumTooLarge))
      (le-ltb (cell_total w.before + w.cell.count) (2 ^ 64) w.passes)

  none_told : (cells : List Cell) → MakesMatrix r c cells → first_fault r c 0 cells ≡ None
  none_told cells w = ap (first_fault r c 0) (sym (append-nil cells)) ∙ start cells [] w

  -- the three kinds of lists, behind cells of this total
  pub record Parts (s : ℕ) (cells : List Cell) : Type 0 where
    pub before : List Cell
    pub cell : Cell
    pub after : List Cell
    pub parts : cells ≡ before ++ cell ∷ after
    pub within : AreWithin r c before
    pub fits : s + cell_total before < 2 ^ 64
    pub fault : ((r ≤ cell.row) ⊎ (c ≤ cell.col)) ⊎ (IsWithin r c cell × (2 ^ 64 ≤ s + cell_total before + cell.count))

  first : (s : ℕ) (x : Cell) (xs : List Cell) → s < 2 ^ 64 →
      ((r ≤ x.row) ⊎ (c ≤ x.col)) ⊎ (IsWithin r c x × (2 ^ 64 ≤ s + 0 + x.count)) → Parts s (x ∷ xs)
  first s x xs h f = record {
    before = [];
    cell = x;
    after = xs;
    parts = refl;
    within = All-nil (IsWithin r c);
    fits = omega arith;
    fault = f;
  }

  later_fault : (s : ℕ) (x : Cell) (cell : Cell) (before : List Cell) →
      ((r ≤ cell.row) ⊎ (c ≤ cell.col)) ⊎ (IsWithin r c cell ×
      (2 ^ 64 ≤ s + x.count + cell_total before + cell.count)) →
      ((r ≤ cell.row) ⊎ (c ≤ cell.col)) ⊎ (IsWithin r c cell ×
      (2 ^ 64 ≤ s + (x.count + cell_total before) + cell.count))
  later_fault s x cell before (inl f) = inl f
  later_fault s x cell before (inr f) = inr (f.0, omega (arith, f.1))

  later : (s : ℕ) (x : Cell) (xs : List Cell) → IsWithin r c x → Parts (s + x.count) xs → Parts s (x ∷ xs)
  later s x xs h w = record {
    before = x ∷ w.before;
    cell = w.cell;
    after = w.after;
    parts = ap (λ (ys : List Cell). x ∷ ys) w.parts;
    within = All-cons (IsWithin r c) x w.before h w.within;
    fits = omega (arith, w.fits);
    fault = later_fault s x w.cell w.before w.fault;
  }

  sorted_out : (s : ℕ) (cells : List Cell) → s < 2 ^ 64 → Parts s cells ⊎
      (AreWithin r c cells × (s + cell_total cells < 2 ^ 64))
  sorted_out s [] h = inr (All-nil (IsWithin r c), omega arith)
  sorted_out s (x ∷ xs) h = elim (cases_lt x.row r) [
    | inr row ↦ inl (first s x xs h (inl (inl row)))
    | inl row ↦ elim (cases_lt x.col c) [
      | inr col ↦ inl (first s x xs h (inl (inr col)))
      | inl col ↦ elim (cases_lt (s + x.count) (2 ^ 64)) [
        | inr over ↦ inl (first s x xs h (inr ((row, col), omega arith)))
        | inl fits ↦ elim (sorted_out (s + x.count) xs fits) [
          | inl w ↦ inl (later s x xs (row, col) w)
          | inr w ↦ inr (All-cons (IsWithin r c) x xs (row, col) w.0, omega (arith, w.1))
        ]
      ]
    ]
  ]

  of_parts : (cells : List Cell) (w : Parts 0 cells) → ((r ≤ w.cell.row) ⊎ (c ≤ w.cell.col)) ⊎
      (IsWithin r c w.cell × (2 ^ 64 ≤ 0 + cell_total w.before + w.cell.count)) →
      LeavesDimensions r c cells ⊎ (PassesLimit r c cells ⊎ MakesMatrix r c cells)
  of_parts cells w (inl f) = inl (record {
    before = w.before;
    cell = w.cell;
    after = w.after;
    parts = w.parts;
    well = record { within = w.within; fits = omega (arith, w.fits) };
    outside = f;
  })
  of_parts cells w (inr f) = inr (inl (record {
    before = w.before;
    cell = w.cell;
    after = w.after;
    parts = w.parts;
    well = record { within = w.within; fits = omega (arith, w.fits) };
    within = f.0;
    passes = omega (arith, f.1);
  }))

  kinds : (cells : List Cell) → LeavesDimensions r c cells ⊎ (PassesLimit r c cells ⊎ MakesMatrix r c cells)
  kinds cells = elim (sorted_out 0 cells (omega arith)) [
    | inl w ↦ of_parts cells w w.fault
    | inr w ↦ inr (inr (record { within = w.0; fits = omega (arith, w.1) }))
  ]

  told_index : (cells : List Cell) → first_fault r c 0 cells ≡ Some IndexOutOfRange → LeavesDimensions r c cells
  told_index cells e = elim (kinds cells) [
    | inl w ↦ w
    | inr (inl w) ↦ absurd (cc (e, sum_told cells w))
    | inr (inr w) ↦ absurd (cc (e, none_told cells w))
  ]

  told_sum : (cells : List Cell) → first_fault r c 0 cells ≡ Some SumTooLarge → PassesLimit r c cells
  told_sum cells e = elim (kinds cells) [
    | inl w ↦ absurd (cc (e, index_told cells w))
    | inr (inl w) ↦ w
    | inr (inr w) ↦ absurd (cc (e, none_told cells w))
  ]

  told_none : (cells : List Cell) → first_fault r c 0 cells ≡ None → MakesMatrix r c cells
  told_none cells e = elim (kinds cells) [
    | inl w ↦ absurd (cc (e, index_told cells w))
    | inr (inl w) ↦ absurd (cc (e, sum_told cells w))
    | inr (inr w) ↦ w
  ]

  pub index_faults : (cells : List Cell) → (first_fault r c 0 cells ≡ Some IndexOutOfRange) ↔ LeavesDimensions r c cells
  index_faults cells = (told_index cells, index_told cells)

  pub sum_faults : (cells : List Cell) → (first_fault r c 0 cells ≡ Some SumTooLarge) ↔ PassesLimit r c cells
  sum_faults cells = (told_sum cells, sum_told cells)

  pub no_faults : (cells : List Cell) → (first_fault r c 0 cells ≡ None) ↔ MakesMatrix r c cells
  no_faults cells = (told_none cells, none_told cells)

-- A run of cells: none yet, and one more.
use Rattle.std.proofs.Common.{◌≡◌, ℕ, ◌+◌, ◌<◌, ◌≤◌, ◌⊎◌, false, List, [], ◌∷◌, ◌++◌, length, get_or, refl, ap, ◌∙◌}
use Rattle.std.proofs.Common.{inl, inr, arith, length-append}
use Rattle.std.proofs.lemmas.Bool.{cases_lt}
use Rattle.std.proofs.lemmas.Bool.Decides.{nat_tests}
use Rattle.std.proofs.lemmas.List.{get_or_append_left}
use Rattle.std.proofs.lemmas.List.Elements.{All-push, All-nil}
use Rattle.cells.specs.declared.cell.Cell.{Cell}
use Rattle.cells.specs.Bounds.{IsWithin}
use Rattle.snap_file.specs.Table.{is_below}
use Rattle.snap_file.specs.Tallies.{IsRun}

pub run_none : (rows cols row col : ℕ) → IsRun rows cols [] row col
run_none rows cols row col = record {
  rises = λ k d h. absurd (omega arith);
  within = All-nil (IsWithin rows cols);
  below = λ i d h. absurd (omega arith);
}

abbrev Before : ℕ → ℕ → ℕ → ℕ → Type 0
Before r c s d = (r < s) ⊎ ((r ≡ s) × (c < d))

not_early : (row col r c : ℕ) → is_below row col r c ≡ false → (r < row) ⊎ ((r ≡ row) × (c ≤ col))
not_early row col r c e = grind (arith, nat_tests)

joined : (a b r c row col : ℕ) → Before a b r c → (r < row) ⊎ ((r ≡ row) × (c ≤ col)) → Before a b row col
joined a b r c row col (inl x) (inl y) = inl (omega arith)
joined a b r c row col (inl x) (inr y) = let e = y.0 in inl (omega arith)
joined a b r c row col (inr x) (inl y) = let e = x.0 in inl (omega arith)
joined a b r c row col (inr x) (inr y) = let h = x.1 in let k = y.1 in inr (x.0 ∙ y.0, omega arith)

here : (cells : List Cell) (cell d : Cell) → get_or (cells ++ cell ∷ []) (length cells) d ≡ cell
here [] cell d = refl
here (x ∷ xs) cell d = here xs cell d

pub run_more : (rows cols : ℕ) (cells : List Cell) (r c : ℕ) (cell : Cell) → IsRun rows cols cells r c →
    is_below cell.row cell.col r c ≡ false → cell.row < rows → cell.col < cols →
    IsRun rows cols (cells ++ cell ∷ []) cell.row (cell.col + 1)
run_more rows cols cells r c cell h late in_row in_col =
    let long : length (cells ++ cell ∷ []) ≡ length cells + 1 = length-append cells (cell ∷ []) in
    record {
      rises = λ k d lt. elim (cases_lt (k + 1) (length cells)) [
        | inl inner ↦ rw (
          get_or_append_left cells (cell ∷ []) d k (omega arith),
          get_or_append_left cells (cell ∷ []) d (k + 1) inner,
        ) (h.rises k d inner)
        | inr outer ↦
            let last : k + 1 ≡ length cells = omega arith in
            let there : get_or (cells ++ cell ∷ []) (k + 1) d ≡
            cell = ap (λ (n : ℕ). get_or (cells ++ cell ∷ []) n d) last ∙ here cells cell d in
            rw (get_or_append_left cells (cell ∷ []) d k (omega arith), there)
            (joined (get_or cells k d).row (get_or cells k d).col r c cell.row cell.col (h.below k d last)
            (not_early cell.row cell.col r c late))
      ];
      within = All-push (IsWithin rows cols) cells cell h.within (in_row, in_col);
      below = λ i d e.
          let last : i ≡ length cells = omega arith in
          let there : get_or (cells ++ cell ∷ []) i d ≡ cell = ap (λ (n : ℕ). get_or (cells ++ cell ∷ []) n d) last ∙
          here cells cell d in
          rw there (inr (refl, omega arith));
    }

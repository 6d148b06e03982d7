-- Cells within their dimensions are no matrix only where their counts pass 64 bits.
use Rattle.std.proofs.Common.{◌≡◌, ℕ, suc, ◌+◌, ◌^◌, ◌<◌, ◌≤◌, List, [], ◌∷◌, ◌++◌, ◌⊎◌, inl, inr, Some, None, sym, ◌∙◌}
use Rattle.std.proofs.Common.{ap, subst, arith}
use Rattle.cells.specs.declared.cell.Cell.{Cell}
use Rattle.cells.specs.Bounds.{IsWithin, AreWithin}
use Rattle.hyper_matrix.specs.Cells.{cell_total, built_of}
use Rattle.hyper_matrix.specs.Counts.{total}
use Rattle.hyper_matrix.specs.Matrix.{Matrix, matrix}
use Rattle.hyper_matrix.specs.Refusals.{first_fault, LeavesDimensions}
use Rattle.hyper_matrix.specs.declared.judge.BuildFault.TheVariants.{IndexOutOfRange, SumTooLarge}
use Rattle.hyper_matrix.proofs.RefusalLaws.{index_faults, sum_faults, no_faults}
use Rattle.hyper_matrix.proofs.BuiltOfLaws.{total-built_of}

total_among : (before : List Cell) (cell : Cell) (after : List Cell) →
    cell_total before + cell.count ≤ cell_total (before ++ cell ∷ after)
total_among [] cell after = omega arith
total_among (x ∷ xs) cell after = omega (arith, total_among xs cell after)

within_among : (r c : ℕ) (before : List Cell) (cell : Cell) (after : List Cell) →
    AreWithin r c (before ++ cell ∷ after) → IsWithin r c cell
within_among r c [] cell after h = h 0 cell (omega arith)
within_among r c (x ∷ xs) cell after h = within_among r c xs cell after (λ k d less. h (suc k) d (omega arith))

-- cells within some dimensions lie within larger ones
pub within_larger : (r c r' c' : ℕ) (cells : List Cell) → AreWithin r c cells → r ≤ r' → c ≤ c' → AreWithin r' c' cells
within_larger r c r' c' cells within rows cols k d less =
    let one = within k d less in (omega (arith, one.0, rows), omega (arith, one.1, cols))

-- cells within the dimensions are never refused for their place
pub never_outside : (r c : ℕ) (cells list : List Cell) → AreWithin r c list → cells ≡ list →
    first_fault r c 0 cells ≡ Some IndexOutOfRange → ⊥
never_outside r c cells list within is fault = not_both p.outside
  where
    p : LeavesDimensions r c cells
    p = (index_faults r c cells).0 fault

    inside : IsWithin r c p.cell
    inside = within_among r c p.before p.cell p.after (subst (AreWithin r c) (sym is ∙ p.parts) within)

    not_both : (r ≤ p.cell.row) ⊎ (c ≤ p.cell.col) → ⊥
    not_both (inl row) = omega (arith, row, inside.0)
    not_both (inr col) = omega (arith, col, inside.1)

-- the counts of a list that is refused for its sum pass 64 bits
pub too_large : (r c : ℕ) (cells list : List Cell) → cells ≡ list → first_fault r c 0 cells ≡ Some SumTooLarge →
    2 ^ 64 ≤ cell_total list
too_large r c cells list is fault =
    let p = (sum_faults r c cells).0 fault in
    omega (arith, p.passes, total_among p.before p.cell p.after, ap cell_total (sym is ∙ p.parts))

-- those of a list that isn't refused fit
pub unrefused : (r c : ℕ) (cells list : List Cell) → cells ≡ list → first_fault r c 0 cells ≡ None →
    cell_total list < 2 ^ 64
unrefused r c cells list is none = omega (arith, ((no_faults r c cells).0 none).fits, ap cell_total is)

pub built_fits : (r c : ℕ) (cells : List Cell) (m : Matrix) → m ≡ matrix r c (built_of cells) →
    total m.counts < 2 ^ 64 → cell_total cells < 2 ^ 64
built_fits r c cells m is h = omega (arith, ap (λ (x : Matrix). total x.counts) is, total-built_of cells, h)

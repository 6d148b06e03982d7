-- What one more block of cells does to a sum.
use Rattle.std.proofs.Common.{◌≡◌, ℕ, ◌+◌, ◌<◌, ◌≤◌, ◌^◌, List, [], ◌++◌, refl, sym, ◌∙◌, ap, arith}
use Rattle.std.proofs.Common.{Bool, true, false, ltb}
use Rattle.std.specs.FinMap.{empty}
use Rattle.std.specs.Prelude.{Result, Ok, Err, OnErr, IsTrue, ◌↔◌}
use Rattle.std.proofs.lemmas.Bool.{ltb-false, ltb-true}
use Rattle.cells.proofs.SumLaws.{total-append}
use Rattle.cells.specs.declared.cell.Cell.{Cell}
use Rattle.hyper_matrix.specs.Counts.{ewise_add, total}
use Rattle.hyper_matrix.specs.Cells.{built_of, cell_total}
use Rattle.hyper_matrix.proofs.BuiltOfLaws.{built_joined, built_of-none, total-built_of}
use Rattle.hyper_matrix.specs.Matrix.{Matrix, matrix}

-- what a test that failed says
pub not_below : (b : Bool) (m n : ℕ) → (IsTrue b ↔ (m < n)) → b ≡ false → n ≤ m
not_below b m n h e = step (ltb m n) refl
  where
    step : (v : Bool) → ltb m n ≡ v → n ≤ m
    step false p = ltb-false m n p
    step true p = let t : b ≡ true = h.1 (ltb-true m n p) in absurd (cc)

-- what holds of every Err, whatever it is
pub on_err : {T E : Type 0} (r : Result T E) (P : Type 0) → P → OnErr r P
on_err (Ok x) P h = tt
on_err (Err e) P h = h

-- what the counts are together, by the cells that were added
pub total_is : (rows cols : ℕ) (cells : List Cell) (m : Matrix) → m ≡ matrix rows cols (built_of cells) →
    total m.counts ≡ cell_total cells
total_is rows cols cells m is = ap (λ (x : Matrix). total x.counts) is ∙ total-built_of cells

-- Counts that do not fit beside those of a sum pass 64 bits behind its cells.
pub sum_passes : (m : Matrix) (block : List Cell) → 2 ^ 64 ≤ total m.counts + cell_total block →
    (rows cols : ℕ) (cells : List Cell) → m ≡ matrix rows cols (built_of cells) → 2 ^ 64 ≤ cell_total (cells ++ block)
sum_passes m block passes rows cols cells is = omega (
  arith,
  passes,
  total_is rows cols cells m is,
  total-append cells block,
)

-- And those that fit beside them fit behind its cells.
pub sum_fits : (m : Matrix) (block : List Cell) → total m.counts + cell_total block < 2 ^ 64 →
    (rows cols : ℕ) (cells : List Cell) → m ≡ matrix rows cols (built_of cells) → cell_total (cells ++ block) < 2 ^ 64
sum_fits m block fits rows cols cells is = omega (
  arith,
  fits,
  total_is rows cols cells m is,
  total-append cells block,
)

-- What is held fits.
pub cells_fit : (m : Matrix) → total m.counts < 2 ^ 64 → (rows cols : ℕ) (cells : List Cell) →
    m ≡ matrix rows cols (built_of cells) → cell_total cells < 2 ^ 64
cells_fit m fits rows cols cells is = omega (arith, fits, total_is rows cols cells m is)

-- A block was added, by a list that builds the same.
pub block_added : (m after : Matrix) (list block : List Cell) → built_of list ≡ built_of block →
    after ≡ record m { counts = ewise_add m.counts (built_of list) } →
    (rows cols : ℕ) (cells : List Cell) → m ≡ matrix rows cols (built_of cells) →
    after ≡ matrix rows cols (built_of (cells ++ block))
block_added m after list block same added rows cols cells is =
    added ∙ ap (λ (x : Matrix). matrix x.rows x.cols (ewise_add x.counts (built_of list))) is
    ∙ ap (λ n. matrix rows cols (ewise_add (built_of cells) n)) same
    ∙ ap (matrix rows cols) (sym (built_joined cells block))

-- An empty matrix is the sum of no cells.
pub no_cells : (rows cols : ℕ) (m : Matrix) → m ≡ matrix rows cols empty → m ≡ matrix rows cols (built_of [])
no_cells rows cols m is = is ∙ ap (matrix rows cols) (built_of-none [] refl)

-- What has passed stays so.
pub stays_passed : (cells block : List Cell) → 2 ^ 64 ≤ cell_total cells → 2 ^ 64 ≤ cell_total (cells ++ block)
stays_passed cells block h = omega (arith, h, total-append cells block)

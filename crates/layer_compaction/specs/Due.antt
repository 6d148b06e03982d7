-- Neighbouring runs whose sum is yet to be made, and the place that waits for it.
use Rattle.std.specs.Prelude.{◌≡◌, ℕ, ◌+◌, ◌<◌, ◌≤◌, ◌^◌, List, [], ◌∷◌, ◌++◌, length, take, drop, refl}
use Rattle.std.specs.Coded.{Coded, code_by, coded×, coded_ℕ, coded_list}
use Rattle.std.specs.FinMap.{entries}
use Rattle.cells.specs.Bounds.{IsDimension}
use Rattle.hyper_matrix.specs.Counts.{Place, total}
use Rattle.hyper_matrix.specs.Matrix.{Matrix, matrix}
use Rattle.layer_compaction.specs.Shared.{content, all_counts, HaveDims}

-- row, column and count of each entry in turn
abbrev pub flat : List (Place × ℕ) → List ℕ
flat [] = []
flat (e ∷ es) = e.0.0 ∷ e.0.1 ∷ e.1 ∷ flat es

-- numbers by which a matrix is told from any other: its dimensions, and its entries
abbrev pub numbers_of : Matrix → List ℕ
numbers_of m = m.rows ∷ m.cols ∷ flat (entries m.counts)

-- runs that may be added up
pub record AddUp (rows cols : ℕ) (runs : List Matrix) : Type 0 where
  pub is_rows : IsDimension rows
  pub is_cols : IsDimension cols
  pub dims : HaveDims rows cols runs
  pub fits : total (content (all_counts runs)) < 2 ^ 64

-- so many neighbouring runs, the place of the first, and the numbers of what is to stand there for them
pub record DueRuns : Type 0 where
  pub from : ℕ
  pub count : ℕ
  pub told : List ℕ

abbrev pub coded_due_runs : Coded DueRuns
coded_due_runs =
    code_by (ℕ × (ℕ × List ℕ)) (coded× coded_ℕ (coded× coded_ℕ (coded_list coded_ℕ)))
    (λ d. (d.from, (d.count, d.told))) (λ p. record { from = p.0; count = p.1.0; told = p.1.1 }) (λ _. refl)

-- `count` runs from a place on
abbrev pub part_from : ℕ → ℕ → List Matrix → List Matrix
part_from from count runs = take count (drop from runs)

-- the runs are there, and what is to stand for them is their sum
pub record IsDue (rows cols : ℕ) (d : DueRuns) (runs : List Matrix) : Type 0 where
  pub within : d.from + d.count ≤ length runs
  pub told : d.told ≡ numbers_of (matrix rows cols (content (all_counts (part_from d.from d.count runs))))

-- the runs with one in the place of those that are due
abbrev pub with_one : DueRuns → Matrix → List Matrix → List Matrix
with_one d one runs = take d.from runs ++ one ∷ drop (d.from + d.count) runs
